pub mod Conditions
pub mod FlatLemmas
pub mod PassLearns
pub mod PassNamed
pub mod PassSound
pub mod SlotLemmas
pub mod Texts
pub mod OrderedLemmas
