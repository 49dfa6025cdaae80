mod Some
mod Wanted
mod Turned
mod Ending
mod Places
