pub mod Leads
pub mod Says
pub mod Tokens
pub mod Trees
pub mod Begun
