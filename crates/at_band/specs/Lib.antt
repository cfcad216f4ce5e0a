-- Of private functions and fields: nothing here has to be believed.
pub mod Thinned
pub mod Banded
pub mod Touched
