pub mod ApartShapes
pub mod Bounds
pub mod CommonPoint
pub mod Elements
mod Examples
pub mod Covering
pub mod Crossings
pub mod EdgePoints
pub mod Found
pub mod Finding
pub mod ClosedRings
pub mod RingLaws
pub mod Shoelace
pub mod Comparisons
