pub mod Corners
pub mod Covers
mod Examples
pub mod Exists
pub mod Insides
pub mod Joints
pub mod Laws
pub mod Members
pub mod OneHull
pub mod Planes
pub mod Ranges
pub mod Rings
pub mod Sorted
pub mod Sorts
pub mod Stacks
pub mod Unique
pub mod Ways
