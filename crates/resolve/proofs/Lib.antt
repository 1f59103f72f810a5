pub mod Setting
pub mod Writing
