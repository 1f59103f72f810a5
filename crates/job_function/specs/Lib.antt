pub mod Reads
pub mod Answer
