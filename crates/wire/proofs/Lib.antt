pub mod Back
pub mod Owned
pub mod Lengths
pub mod Lists
pub mod Made
pub mod Offers
pub mod Parts
