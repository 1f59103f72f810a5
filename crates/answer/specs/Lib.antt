pub mod Words
pub mod Room
pub mod Whole
pub mod Answered
