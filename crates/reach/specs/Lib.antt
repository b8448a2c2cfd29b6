-- What the search keeps true of its table, and what it promises at the end.
pub mod Searching
pub mod Promise
pub mod Kept
