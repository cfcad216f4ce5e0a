-- What public contracts say: a reader has to believe these.
pub mod Words
pub mod Pieces
pub mod Values
pub mod LineOf
pub mod Gates
pub mod Texts
pub mod Outcomes
pub mod Telling
pub mod Failures
pub mod Made
-- Of private functions and fields: nothing here has to be believed.
pub mod Steps
pub mod Said
pub mod Endings
pub mod Loading
pub mod Squares
pub mod Forms
