pub mod Known
pub mod Room
pub mod Emitted
pub mod LettingGo
pub mod Leading
pub mod Closing
