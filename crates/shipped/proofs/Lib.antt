pub mod Rule
pub mod Accepted
pub mod Writes
pub mod Filled
