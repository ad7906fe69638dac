pub mod CivilDates
pub mod Lists
pub mod Decimals
pub mod Dates
pub mod InstantTexts
pub mod InstantAgain
pub mod Again
