pub mod Cached
pub mod Fault
pub mod Hinted
pub mod Keyed
