pub mod Kinds
pub mod Signatures
