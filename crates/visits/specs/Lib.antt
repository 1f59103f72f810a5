pub mod Marks
pub mod Writers
pub mod Carry
