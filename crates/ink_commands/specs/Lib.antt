pub mod Meanings
pub mod Orders
pub mod Reports
pub mod Runs
pub mod Sources
pub mod Verdict
