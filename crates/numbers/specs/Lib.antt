-- What number a list of words is.
pub mod Value
