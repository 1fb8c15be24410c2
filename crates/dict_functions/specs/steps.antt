-- Relations of private calls.
pub mod Lines
