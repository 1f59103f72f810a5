pub mod Trials
pub mod Stands
pub mod OldBytes
pub mod SameJob
pub mod SameTables
pub mod Kept
pub mod Readers
pub mod OnlyReading
