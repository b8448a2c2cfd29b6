pub mod Computing
pub mod Codes
pub mod Telling
pub mod Evaluated
pub mod ParsedJobs
pub mod Signing
