pub mod Lists
pub mod Table
pub mod Fates
pub mod Sources
pub mod Writers
pub mod Noting
pub mod Adding
pub mod Free
