pub mod OneOverlay
pub mod Standing
