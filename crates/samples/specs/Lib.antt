-- What the sample automata give to trees.
pub mod Meanings
