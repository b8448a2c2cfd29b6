-- The signature of a tree under a job, and the automaton that has it as its state.
pub mod Signatures
pub mod JobClasses
pub mod Laws
pub mod Evaluating
pub mod Parsing
