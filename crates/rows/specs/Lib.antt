-- What the readers of rows promise.
pub mod Standing
pub mod Numbered
pub mod Stepwise
pub mod Tables
pub mod Jobs
pub mod Subtrees
pub mod Known
