pub mod Followed
pub mod Opened
pub mod Places
pub mod Plains
pub mod Unlike
pub mod Allowed
