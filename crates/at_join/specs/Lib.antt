-- What public contracts say: a reader has to believe these.
pub mod Meetings
pub mod Boxes
pub mod Cells
pub mod Parts
-- Of private functions and fields: nothing here has to be believed.
pub mod Sides
