pub mod Positions
mod MarkLemmas
pub mod LinkLemmas
pub mod Seen
pub mod FitLemmas
pub mod OfferLemmas
mod HotLemmas
pub mod ColdLemmas
pub mod SoundLemmas
mod TrailEnds
mod ChangeLemmas
mod CountLemmas
