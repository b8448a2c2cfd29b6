pub mod Entering
pub mod Walking
pub mod Putting
pub mod Progressing
