-- What public contracts say: a reader has to believe these.
pub mod Places
pub mod Encodings
pub mod Blocks
