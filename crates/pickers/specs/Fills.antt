-- What a frame holds after it was filled.
use Rattle.std.specs.Prelude.{◌≡◌, ℕ, List, ◌++◌, length, drop}
use Rattle.pickers.specs.declared.frame.Frame.{Frame}

-- the frame has the same crew and the row, read from its first place; the places past the row are as before
pub record Filled (before : Frame) (row : List ℕ) (after : Frame) : Type 0 where
  pub same_crew : after.crew ≡ before.crew
  pub row_length : after.len ≡ length row
  pub at_first : after.at ≡ 0
  pub row_placed : after.places ≡ row ++ drop (length row) before.places
