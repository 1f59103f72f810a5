pub mod Answer
pub mod Are
