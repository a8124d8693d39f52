pub mod Elements
pub mod LedgerLines
pub mod Lines
pub mod Outputs
pub mod Reading
pub mod SheetLines
