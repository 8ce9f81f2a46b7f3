-- Laws about ranks.
pub mod Reading
pub mod Slots
pub mod EntityRanks
pub mod Totals
pub mod Standing
pub mod AllRanks
