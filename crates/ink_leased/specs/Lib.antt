pub mod Apart
pub mod Homecoming
pub mod Leased
pub mod Lending
pub mod Standing
pub mod Staying
