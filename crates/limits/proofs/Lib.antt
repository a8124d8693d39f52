pub mod Totals
pub mod Progress
