mod Telling
mod Moving
mod Starting
mod Stirring
