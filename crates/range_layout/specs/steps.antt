-- Relations of the loops.
pub mod Filling
pub mod Painting
