pub mod Calls
pub mod Claim
pub mod Enough
pub mod Priced
