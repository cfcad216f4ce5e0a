-- What public contracts say: a reader has to believe these.
pub mod Labels
pub mod LineFaults
pub mod Features
pub mod JsonFiles
pub mod JsonFragments
pub mod Files
pub mod Answers
pub mod Joins
pub mod Gathering
pub mod Readers
-- Of private functions and fields: nothing here has to be believed.
pub mod Labelling
