pub mod Lists
pub mod Numbers
pub mod Stores
pub mod Rooms
pub mod Caches
pub mod Others
