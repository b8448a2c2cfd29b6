-- What filling in patterns promises.
pub mod Tasks
pub mod Stacked
pub mod Sources
pub mod Framed
pub mod Walks
