pub mod Crews
pub mod Hits
pub mod Kinds
pub mod Refusals
