pub mod Known
pub mod Direct
pub mod RemattedWithScratch
pub mod Handing
