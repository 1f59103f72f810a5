pub mod Replaying
