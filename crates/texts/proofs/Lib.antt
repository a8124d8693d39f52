pub mod CutLaws
pub mod FrameLaws
pub mod Gathers
pub mod PlaceLaws
pub mod RowLaws
pub mod SheetLaws
pub mod WorkerLaws
