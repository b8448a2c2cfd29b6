pub mod Expanding
pub mod Writing
pub mod FirstBreaks
pub mod Reading
