pub mod Comparing
pub mod Pigeonhole
pub mod Pushing
pub mod Growing
pub mod Places
pub mod Counting
pub mod Finiteness
pub mod Theory
