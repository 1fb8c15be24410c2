-- The definitions that contracts cite.
pub mod KeyBytes
pub mod KeyHash
pub mod KeyTables
pub mod Probing
pub mod Tables
pub mod steps
