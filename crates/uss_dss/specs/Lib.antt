pub mod Parts
pub mod Effects
pub mod Keys
pub mod Maps
pub mod Located
pub mod Kept
pub mod Grid
