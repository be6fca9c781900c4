pub mod ComplexPings
pub mod Hearing
pub mod Memberships
pub mod Pings
pub mod SetRows
pub mod Taking
