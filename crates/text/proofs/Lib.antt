pub mod Capped
pub mod Decimals
pub mod Hexadecimals
pub mod Integers
pub mod Printed
pub mod RoundTrips
pub mod Claimed
