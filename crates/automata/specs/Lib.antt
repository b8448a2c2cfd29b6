-- Finite deterministic bottom-up automata on trees, the classes of trees that they tell apart, and what is promised of them.
pub mod Automata
pub mod Classes
pub mod Frontier
pub mod Links
pub mod Laws
