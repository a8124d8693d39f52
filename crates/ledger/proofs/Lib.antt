pub mod CutLaws
pub mod ElementLaws
pub mod NumberLaws
pub mod SheetLaws
