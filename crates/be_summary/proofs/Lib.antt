mod Lines
mod ColorLemmas
mod Different
mod Sets
mod Strips
