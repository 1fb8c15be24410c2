pub mod Judged
pub mod KeyPlaces
pub mod NamePlaces
pub mod RangeEnds
pub mod ShapePlaces
