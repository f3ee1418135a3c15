pub mod Operations
pub mod Recorded
pub mod Views
pub mod Rule
pub mod AtomicSteps
pub mod Seats
pub mod Steps
pub mod Laws
