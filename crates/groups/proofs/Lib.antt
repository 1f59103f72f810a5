pub mod Noting
pub mod Entries
pub mod Tables
pub mod Free
pub mod Chain
