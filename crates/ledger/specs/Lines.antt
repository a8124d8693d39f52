-- A line: its fields, parted by tabs, and byte 10 at its end.
use Rattle.std.specs.Prelude.{ℕ, List, [], ◌∷◌, ◌++◌, take}
use Rattle.ledger.specs.declared.line.Line.{Line}

-- the bytes that the code's line has
abbrev pub text_of : Line → List ℕ
text_of l = take l.len l.bytes

-- fields, each with a tab before it
abbrev pub tabbed : List (List ℕ) → List ℕ
tabbed [] = []
tabbed (x ∷ xs) = 9 ∷ x ++ tabbed xs

-- fields with a tab between two of them
abbrev pub parted : List (List ℕ) → List ℕ
parted [] = []
parted (x ∷ xs) = x ++ tabbed xs

-- a whole line
abbrev pub line_of : List (List ℕ) → List ℕ
line_of xs = parted xs ++ 10 ∷ []
