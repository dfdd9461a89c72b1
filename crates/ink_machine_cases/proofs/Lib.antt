pub mod ParcelLemmas
pub mod StartLemmas
