-- What public contracts say: who calls these has to believe them.
pub mod Places
pub mod Names
pub mod Fields
pub mod Hashes
pub mod Members
pub mod KnownNames
pub mod Numbers
