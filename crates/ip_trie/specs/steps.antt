-- Relations of the loops.
pub mod Growing
