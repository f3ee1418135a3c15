pub mod Ends
pub mod Traced
pub mod AnySeats
pub mod Seatings
pub mod Rooms
