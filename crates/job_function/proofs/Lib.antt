pub mod Accepted
pub mod Values
pub mod Counts
