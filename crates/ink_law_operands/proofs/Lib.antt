pub mod ArrayRows
pub mod Each
pub mod ObjectRows
pub mod ValueRows
