pub mod Tree
mod Above
mod Sums
mod Alike
mod Claims
mod Turns
mod Rests
mod Firsts
mod Seconds
mod Roots
mod Deposits
mod Hires
mod Opens
mod Closes
mod Pairs
mod Told
pub mod Powers
mod Leaves
mod Rows
mod Rising
