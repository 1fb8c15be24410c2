-- Lemmas of this crate.
pub mod Again
pub mod CivilDays
pub mod Cuts
pub mod DigitTexts
pub mod Digits
pub mod FirstPlaces
pub mod Fronts
pub mod LastDigits
pub mod Places
pub mod ReadTypes
pub mod Readings
pub mod WrittenAddresses
pub mod WrittenBytes
pub mod WrittenDates
pub mod WrittenDecimals
pub mod WrittenNumbers
