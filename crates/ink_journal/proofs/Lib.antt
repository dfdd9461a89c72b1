mod Ends
mod Front
mod Entries
mod Runs
mod Words
