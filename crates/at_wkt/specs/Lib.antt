-- What public contracts say: a reader has to believe these.
pub mod Positions
pub mod Geometry
pub mod Meaning
pub mod Lines
pub mod Answers
pub mod Folding
pub mod FoldParts
-- Of private functions and fields: nothing here has to be believed.
pub mod Readers
