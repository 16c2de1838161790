pub mod One
pub mod Rooms
pub mod Agree
pub mod Order
pub mod Words
pub mod Line
