mod DrawnLemmas
mod Lines
mod Loops
pub mod PlainWords
pub mod MadeReading
pub mod MadeStates
pub mod MadeWindows
pub mod MadeCommands
pub mod MadeBodies
pub mod MadeSteps
pub mod MadeApps
pub mod MadeWork
pub mod MadeScript
