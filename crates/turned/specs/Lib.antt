-- What the public calls promise.
pub mod Filling
pub mod Turning
pub mod Putting
pub mod Judging
pub mod Words
pub mod Undecided
