pub mod FrameLemmas
pub mod ShadowLemmas
pub mod AddressLemmas
pub mod StackLemmas
pub mod StackOps
pub mod MoveLaws
