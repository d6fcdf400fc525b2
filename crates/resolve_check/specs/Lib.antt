pub mod ExitStatus
pub mod Texts
pub mod Input
pub mod Devices
pub mod Faults
pub mod Check
