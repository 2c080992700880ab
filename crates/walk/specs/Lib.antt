pub mod Places
pub mod Lists
pub mod Settled
pub mod Walk
pub mod Laws
pub mod Seen
pub mod Taking
