pub mod Elements
pub mod SplitLemmas
pub mod Pieces
pub mod Results
pub mod CheckLemmas
