-- What the steps of private calls find; callers read none of it.
pub mod Fed
pub mod Heard
