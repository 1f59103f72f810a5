pub mod Comparing
pub mod Telling
pub mod Showing
