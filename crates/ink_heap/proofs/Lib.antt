pub mod FieldsLemmas
pub mod ObjectsLemmas
pub mod PairsLemmas
