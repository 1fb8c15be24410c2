pub mod AskedLines
mod Cells
mod FetchedCells
mod Fitting
mod HierarchyTexts
mod KeyTypes
mod KeyedTexts
mod KeysRead
mod Listed
pub mod OneAnswer
mod OneKey
mod NumberedKeys
mod Paired
mod SentRows
mod SideBySide
mod SoundColumns
mod Unfitting
