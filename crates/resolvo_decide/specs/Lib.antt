pub mod States
pub mod CandidateCounts
pub mod Links
pub mod Needs
pub mod HotNames
pub mod Cold
pub mod Queue
