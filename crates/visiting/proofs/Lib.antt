pub mod Stay
pub mod Opened
pub mod Visited
pub mod Walking
pub mod Passing
pub mod Ending
