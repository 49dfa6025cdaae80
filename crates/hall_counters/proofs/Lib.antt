mod Moving
mod Starting
