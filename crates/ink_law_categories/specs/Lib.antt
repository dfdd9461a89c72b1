pub mod Written
pub mod Categories
pub mod Nested
pub mod Spells
pub mod Alike
pub mod Sample
