pub mod Alike
pub mod Places
pub mod Apart
pub mod StartToEnd
pub mod Offered
pub mod Sent
