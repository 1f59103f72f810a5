pub mod Copied
pub mod Answers
