pub mod Overlays
pub mod steps
