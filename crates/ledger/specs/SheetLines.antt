-- The bytes of a sheet's lines, in shortest form.
use Rattle.std.specs.Prelude.{ℕ, List, [], ◌∷◌, codes, decimal}
use Rattle.vocabulary.specs.declared.kind.ElementKind.{ElementKind}
use Rattle.vocabulary.specs.Kinds.{element_word}
use Rattle.texts.specs.declared.sheet.SheetLine.{SheetLine}
use Rattle.ledger.specs.Lines.{line_of}

-- the first line
abbrev pub kind_bytes : ElementKind → List ℕ
kind_bytes kind = line_of (codes "kind" ∷ element_word kind ∷ [])

-- a post: its worker, and the fields of its element
abbrev pub post_bytes : {T : Type 0} → (T → List (List ℕ)) → ℕ → T → List ℕ
post_bytes fields_of worker element = line_of (codes "post" ∷ decimal worker ∷ fields_of element)

-- a line after the first
abbrev pub sheet_bytes : {T : Type 0} → (T → List (List ℕ)) → SheetLine T → List ℕ
sheet_bytes fields_of (SheetLine.Post w x) = post_bytes fields_of w x
sheet_bytes fields_of (SheetLine.Fetch w) = line_of (codes "fetch" ∷ decimal w ∷ [])
sheet_bytes fields_of (SheetLine.Step w) = line_of (codes "step" ∷ decimal w ∷ [])
sheet_bytes fields_of (SheetLine.Turn c) = line_of (codes "turn" ∷ decimal c ∷ [])
