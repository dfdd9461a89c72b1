pub mod Row
pub mod Rule
pub mod Table
