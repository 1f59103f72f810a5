pub mod Packed
pub mod Bounds
pub mod Steps
pub mod Unlimited
pub mod Bringing
pub mod Outcomes
pub mod Diversions
pub mod Agree
