pub mod Alike
pub mod FitLemmas
pub mod InternLemmas
pub mod Picks
pub mod Plain
pub mod QueueLemmas
pub mod Undone
