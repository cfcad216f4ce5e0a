mod Examples
pub mod Growth
pub mod GatesPassed
pub mod Runs
pub mod Prefixes
pub mod Spelled
pub mod OneLine
pub mod OneOutcome
pub mod Numbers
pub mod FileNames
pub mod FlagLaws
pub mod SaidLines
pub mod MadeSizes
pub mod SquareTexts
pub mod OneMade
pub mod ShelfUses
pub mod Loads
