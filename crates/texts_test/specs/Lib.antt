pub mod FirstFaults
pub mod StandIns
