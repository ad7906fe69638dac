pub mod Made
pub mod VolumesAgain
pub mod ReferencesAgain
