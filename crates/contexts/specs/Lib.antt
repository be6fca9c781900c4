pub mod Contexts
pub mod RoundTrips
