-- The definitions that contracts cite.
pub mod CommandLine
pub mod Statuses
pub mod OneRun
pub mod Demo
