pub mod Putting
pub mod Parts
