mod Ended
mod Decodes
mod Unique
