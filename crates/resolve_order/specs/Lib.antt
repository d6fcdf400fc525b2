pub mod Order
pub mod View
pub mod Numbers
pub mod Kept
pub mod Need
pub mod Keys
