pub mod Done
pub mod Lengths
pub mod Stood
pub mod Opened
