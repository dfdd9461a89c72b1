pub mod Woken
mod Shown
mod Noted
