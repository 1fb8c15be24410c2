pub mod Fits
pub mod Shapes
