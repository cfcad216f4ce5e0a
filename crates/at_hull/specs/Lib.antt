-- What public contracts say: a reader has to believe these.
pub mod Growth
pub mod Hulls
-- Of private functions and fields: nothing here has to be believed.
pub mod Walks
pub mod Within
