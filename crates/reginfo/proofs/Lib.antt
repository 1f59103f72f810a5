pub mod Table
pub mod Laws
pub mod First
pub mod Accepted
