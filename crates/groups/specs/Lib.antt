pub mod Given
pub mod Noting
pub mod Linked
pub mod Free
