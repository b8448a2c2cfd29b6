-- What stands in the regions of a table.
pub mod Rows
pub mod Tables
pub mod Chains
pub mod Layout
