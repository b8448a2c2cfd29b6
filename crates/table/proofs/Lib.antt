pub mod Spacing
pub mod Chaining
pub mod Selecting
