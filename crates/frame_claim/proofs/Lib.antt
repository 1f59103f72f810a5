pub mod Beside
pub mod Claimed
pub mod Opened
