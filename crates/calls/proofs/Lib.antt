pub mod Opening
pub mod Freeing
pub mod Claimed
pub mod Enough
