pub mod Calls
pub mod Claim
pub mod Frames
pub mod Examined
