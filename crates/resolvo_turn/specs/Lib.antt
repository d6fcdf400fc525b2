pub mod Encoder
pub mod Effects
pub mod Tasks
pub mod Turn
pub mod LacksIds
pub mod TurnRules
pub mod Matches
