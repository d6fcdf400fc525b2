pub mod PackageSource
pub mod Forbidden
