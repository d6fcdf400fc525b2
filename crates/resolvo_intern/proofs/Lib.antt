pub mod Interned
