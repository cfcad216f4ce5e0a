-- What public contracts say: a reader has to believe these.
pub mod Words
