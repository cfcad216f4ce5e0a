pub mod Filtering
pub mod FilteredFiles
mod Places
