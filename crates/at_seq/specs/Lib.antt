-- What public contracts say: a reader has to believe these.
pub mod Records
pub mod Sequences
pub mod Answers
-- Of private functions and fields: nothing here has to be believed.
pub mod Gathering
pub mod Fragments
pub mod Ends
