-- The words of jobs that are made of tables.
pub mod Made
