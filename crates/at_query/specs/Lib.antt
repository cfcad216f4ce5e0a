-- What public contracts say: a reader has to believe these.
pub mod Holding
pub mod Results
pub mod Ranges
pub mod Parts
pub mod Joined
pub mod Accumulators
pub mod GatheredParts
pub mod Keeping
pub mod Tallies
pub mod Printing
pub mod Spelling
pub mod Queries
-- Of private functions and fields: nothing here has to be believed.
pub mod Readers
pub mod TextTests
