-- What single calls within a load do: no contract that callers read cites it.
pub mod Defaults
pub mod Kept
pub mod Makings
pub mod Publishings
pub mod Readings
