pub mod Numbered
pub mod Made
pub mod Listed
pub mod Next
