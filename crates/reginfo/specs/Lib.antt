pub mod RegInfo
pub mod Known
pub mod Refused
pub mod Given
pub mod Table
