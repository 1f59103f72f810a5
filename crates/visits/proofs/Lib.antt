pub mod Marks
pub mod Writers
pub mod Carrying
pub mod Walk
