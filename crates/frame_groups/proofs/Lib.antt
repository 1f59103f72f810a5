pub mod Laws
pub mod Are
