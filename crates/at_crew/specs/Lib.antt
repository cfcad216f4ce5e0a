-- What public contracts say: a reader has to believe these.
pub mod Nodes
pub mod Views
pub mod Rule
pub mod Shown
-- Of private functions and fields: nothing here has to be believed.
pub mod Steps
pub mod Seats
