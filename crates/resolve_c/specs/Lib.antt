pub mod CallStatus
pub mod CallResult
