pub mod Job
pub mod Claim
pub mod Conditions
pub mod Trials
pub mod Priced
pub mod Formula
