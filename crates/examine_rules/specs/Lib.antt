pub mod Examine
pub mod Examined
pub mod Words
pub mod Ours
pub mod ExamineTrials
