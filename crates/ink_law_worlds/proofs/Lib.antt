pub mod Home
