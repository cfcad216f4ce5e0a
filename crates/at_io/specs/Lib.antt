-- What public contracts say: a reader has to believe these.
pub mod Counts
pub mod Distinct
pub mod Files
pub mod NamedFiles
pub mod MemShelves
pub mod RepeatShelves
pub mod Sinks
pub mod PutFails
pub mod MemSinks
