mod Examples
pub mod JsonString
pub mod FrontLemmas
pub mod FrontMasks
pub mod Texts
pub mod TextScans
pub mod ShortFronts
pub mod RunLemmas
pub mod RunBytes
pub mod ItemLemmas
pub mod NumberLemmas
pub mod Stretches
pub mod UnitLemmas
pub mod Unique
