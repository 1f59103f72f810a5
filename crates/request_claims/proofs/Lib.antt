pub mod Paired
pub mod Grouped
pub mod Claimed
pub mod Requests
pub mod Enough
pub mod Sizes
pub mod Priced
