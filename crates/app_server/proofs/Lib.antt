mod Lines
mod Split
mod Parted
mod Writing
mod ReadLimits
mod SomeJudged
mod OneJudged
