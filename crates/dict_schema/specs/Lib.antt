pub mod Judging
pub mod Commands
pub mod Parts
pub mod Table
pub mod Shapes
pub mod Sound
