-- What public contracts say: a reader has to believe these.
pub mod Strings
pub mod Runs
pub mod StringStates
pub mod Spans
pub mod CodeUnits
pub mod Stream
-- Of private functions and fields: nothing here has to be believed.
pub mod Beginnings
pub mod EndedNumbers
pub mod Fronts
pub mod UnitSteps
pub mod Endings
