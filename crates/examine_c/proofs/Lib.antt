pub mod Calling
pub mod Confirmed
