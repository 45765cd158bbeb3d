pub mod Types
pub mod Commands
pub mod InCode
pub mod Private
pub mod Cases
pub mod KindLeftOut
pub mod RankLeftOut
