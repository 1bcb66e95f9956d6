pub mod EntityKinds
pub mod Spelled
pub mod Exact
pub mod Loop
pub mod Passes
pub mod RoundTrips
