pub mod Numbers
pub mod Claim
pub mod Trials
