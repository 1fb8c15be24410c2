-- What private calls say, beside what callers read.
pub mod Asked
pub mod Fields
pub mod Heads
