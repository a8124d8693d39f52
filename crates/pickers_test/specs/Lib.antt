pub mod Asking
pub mod Dues
