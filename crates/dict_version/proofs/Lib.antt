-- Lemmas of this crate.
pub mod AttributePlaces
pub mod PlainTexts
pub mod RangeLookups
pub mod RowCells
pub mod SoundParts
pub mod VersionCells
