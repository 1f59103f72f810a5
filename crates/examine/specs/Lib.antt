pub mod Ends
pub mod Answer
