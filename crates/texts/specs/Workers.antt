-- The workers that a line of a card names, as they are kept until they fill a frame.
use Rattle.std.specs.Prelude.{ℕ, min, List, map, take, Ok, Err, Result}
use Rattle.arrayvec.specs.ArrayVec.{ArrayVec}
use Rattle.texts.specs.declared.fault.Bad.{Bad}

-- a row that was kept, by its workers alone
abbrev pub row_or : Result (ArrayVec ℕ) Bad → Result (List ℕ) Bad
row_or (Ok k) = Ok k.items
row_or (Err b) = Err b

-- a number too large for a byte is kept as 255, which no crew has either
abbrev pub byte_of : ℕ → ℕ
byte_of w = min w 255

-- of a row that is too long for a frame, the first 65 are enough to show it
abbrev pub kept_all : List ℕ → List ℕ
kept_all ws = take 65 (map byte_of ws)

abbrev pub kept_all_or : Result (List ℕ) Bad → Result (List ℕ) Bad
kept_all_or (Ok ws) = Ok (kept_all ws)
kept_all_or (Err b) = Err b
