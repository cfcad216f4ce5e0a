-- What public contracts say: a reader has to believe these.
pub mod Names
pub mod Coordinates
pub mod Roles
pub mod Atoms
pub mod Wholes
-- Of private functions and fields: nothing here has to be believed.
pub mod Gathering
pub mod Hashes
pub mod Arrays
pub mod Series
pub mod Tracks
pub mod Objects
pub mod Fields
pub mod Ends
pub mod Values
pub mod Rows
pub mod Passing
pub mod Rings
pub mod Makings
pub mod Members
pub mod Geometries
pub mod PlainGeometries
pub mod PositionRuns
pub mod Features
pub mod FeatureRuns
