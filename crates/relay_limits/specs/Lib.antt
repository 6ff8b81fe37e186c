pub mod Compacting
pub mod Port
pub mod Limits
pub mod Balancers
pub mod AllowedClients
pub mod Control
pub mod Pace
