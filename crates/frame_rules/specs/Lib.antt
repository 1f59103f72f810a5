pub mod Frame
pub mod Opening
pub mod FrameTrials
pub mod Promise
pub mod Takes
pub mod Claim
pub mod Renamed
