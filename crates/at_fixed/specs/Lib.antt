-- What public contracts say: a reader has to believe these.
pub mod Numerals
pub mod Fixed
pub mod Products
pub mod States
-- Of private functions and fields: nothing here has to be believed.
pub mod Gaps
pub mod NumberSoFar
pub mod Eights
pub mod Scans
pub mod Decimals
pub mod Scanned
