pub mod First
pub mod Running
pub mod Resolving
pub mod Adding
pub mod Claimed
pub mod Enough
