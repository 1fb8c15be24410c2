-- The definitions that contracts cite.
pub mod Types
pub mod Defaults
pub mod Marks
pub mod Grammar
pub mod Reading
