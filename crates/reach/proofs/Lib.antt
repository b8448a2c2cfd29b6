pub mod Placing
pub mod Rewriting
pub mod TakingUp
pub mod Ranks
pub mod Steps
pub mod Settling
