pub mod Pieces
pub mod PatternCode
pub mod Terms
pub mod FormCode
pub mod MethodCode
