pub mod Origins
pub mod Stored
pub mod Changes
pub mod Calls
pub mod ClauseText
