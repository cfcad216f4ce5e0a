pub mod Powers
pub mod EvenPlaces
pub mod Covered
pub mod BlockParts
pub mod ValidSpans
mod MovedCuts
