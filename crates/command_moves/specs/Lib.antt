pub mod Program
pub mod Left
pub mod Steps
pub mod Stepper
