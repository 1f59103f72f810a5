pub mod Given
pub mod Answers
pub mod Steps
pub mod Claim
pub mod Enough
