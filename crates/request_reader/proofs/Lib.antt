pub mod Takings
pub mod Hearing
