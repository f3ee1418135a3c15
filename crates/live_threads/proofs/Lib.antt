pub mod RingSeats
pub mod OnCpus
pub mod RingRooms
