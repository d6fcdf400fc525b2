pub mod Favoured
pub mod HintedLemmas
pub mod KeptLemmas
pub mod PlaceLemmas
pub mod TableLemmas
