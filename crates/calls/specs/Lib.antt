pub mod Opening
pub mod Call
pub mod Claim
pub mod Enough
