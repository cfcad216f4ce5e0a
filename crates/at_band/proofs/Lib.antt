pub mod BandsOf
pub mod CutHeights
pub mod Filtered
pub mod Parts
pub mod ThinnedEdges
pub mod ThinnedRanges
pub mod ThinnedRegions
pub mod TouchedShapes
