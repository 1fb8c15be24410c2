pub mod CallerSteps
pub mod DictSteps
pub mod WorldRows
pub mod FlatRows
pub mod Laws
pub mod WorldSteps
pub mod steps
