pub mod ByHand
pub mod Cuts
pub mod Digits
pub mod Signed
pub mod Totals
