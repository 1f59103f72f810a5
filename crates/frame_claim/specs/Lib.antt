pub mod Claim
pub mod Opening
