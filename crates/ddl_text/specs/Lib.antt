-- The definitions that contracts cite.
pub mod Faults
pub mod Statements
pub mod Grammar
pub mod Reading
pub mod Items
pub mod Files
pub mod Again
