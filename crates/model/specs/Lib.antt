-- What trees, types, turns, jobs and their rows of words are, and what is promised of them.
pub mod Trees
pub mod Types
pub mod Turns
pub mod Jobs
pub mod Rows
pub mod Laws
pub mod Worked
