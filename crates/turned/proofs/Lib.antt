pub mod FilledIn
pub mod Counted
pub mod Saying
pub mod Deciding
pub mod Together
