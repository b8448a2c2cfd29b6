-- Least trees read off a table, and what is decided of a job.
pub mod Ranked
pub mod Verdicts
pub mod Words
