pub mod Lists
pub mod Answered
pub mod Standing
