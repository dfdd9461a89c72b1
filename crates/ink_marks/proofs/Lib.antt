mod Least
mod Levels
