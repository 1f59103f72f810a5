pub mod Decimal
pub mod Putting
pub mod Printing
pub mod Lengths
