pub mod Jobs
pub mod Conditions
pub mod Claim
pub mod Trials
