pub mod Points
pub mod Cells
pub mod Boxes
pub mod SlotOrder
pub mod Slots
pub mod Places
pub mod Laws
