pub mod RandomSamples1
pub mod RandomSamples2
mod WaitSamples
mod QuantumSamples
pub mod Coverage
