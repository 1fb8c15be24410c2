mod MarkAhead
mod DefaultFits
mod OneToken
pub mod Sound
pub mod TypeLaws
pub mod ColumnLaws
pub mod KeyLaws
pub mod ArgumentLaws
