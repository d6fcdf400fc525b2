pub mod SameSets
pub mod TurnLemmas
pub mod ReachLemmas
pub mod FitLemmas
pub mod AcceptLemmas
pub mod InstallLemmas
pub mod LineLemmas
