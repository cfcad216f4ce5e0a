-- Of private functions and fields: nothing here has to be believed.
pub mod MoreBytes
pub mod FeedBytes
pub mod Pairings
pub mod Said
