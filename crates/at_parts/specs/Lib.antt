-- What public contracts say: a reader has to believe these.
pub mod Moved
pub mod Collections
pub mod Records
pub mod Sums
