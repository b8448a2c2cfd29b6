-- What the calls for other languages promise.
pub mod Coded
