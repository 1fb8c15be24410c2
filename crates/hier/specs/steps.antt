-- Relations of the loops.
pub mod Counting
pub mod Finding
pub mod Linking
