-- A sheet's lines are read back as they were written.
use Rattle.std.proofs.Common.{◌≡◌, ℕ, ◌^◌, ◌<◌, true, false, cond, List, [], ◌∷◌, ◌++◌, Some, None, Ok, codes, decimal, Result, refl, ap, ◌∙◌, append_assoc, arith}
use Rattle.vocabulary.specs.declared.kind.ElementKind.{ElementKind}
use Rattle.vocabulary.specs.Kinds.{element_word}
use Rattle.texts.specs.declared.fault.Bad.{Bad}
use Rattle.texts.specs.declared.sheet.SheetLine.{SheetLine}
use Rattle.texts.specs.Cuts.{before, after, has}
use Rattle.texts.specs.Lines.{Row, row_of, and_then}
use Rattle.texts.specs.Places.{Place, line_at, after_line, judged_line, all_read}
use Rattle.texts.specs.Sheets.{kind_line, sheet_line}
use Rattle.ledger.specs.Lines.{parted, line_of}
use Rattle.ledger.specs.Reading.{LineInRange, ReadsAs, NextLine}
use Rattle.ledger.specs.SheetLines.{kind_bytes, sheet_bytes}
use Rattle.ledger.proofs.CutLaws.{Lack, before-piece, after-piece, has-piece, cut-parted, parted-lacks}
use Rattle.ledger.proofs.NumberLaws.{decimal-lacks, within-back}

-- a line whose fields have no tab and no byte 10, and the rest of a text behind it
module _ (x : List ℕ) (xs : List (List ℕ)) (tabs : Lack 9 (x ∷ xs)) (ends : Lack 10 (x ∷ xs)) (rest : List ℕ) where
  whole : line_of (x ∷ xs) ++ rest ≡ parted (x ∷ xs) ++ 10 ∷ rest
  whole = append_assoc (parted (x ∷ xs)) (10 ∷ []) rest

  row_back : row_of (before 10 (line_of (x ∷ xs) ++ rest)) ≡ record { left = x ∷ xs; taken = 0 }
  row_back = ap (λ ys. row_of (before 10 ys)) whole ∙ ap row_of (before-piece 10 rest (parted (x ∷ xs)) (parted-lacks (x ∷ xs) ends)) ∙ ap (λ ys. record { left = ys; taken = 0 }) (cut-parted x xs tabs)

  -- a rule that reads its fields reads the line
  pub reads-line : {A : Type 0} (rule : Row → Result A Bad) (a : A) → rule (record { left = x ∷ xs; taken = 0 }) ≡ Ok a → ReadsAs rule (line_of (x ∷ xs)) a rest
  reads-line rule a e =
      let none = parted-lacks (x ∷ xs) ends in
      record {
        ended = ap (has 10) whole ∙ has-piece 10 rest (parted (x ∷ xs)) none;
        said = ap rule row_back ∙ e;
        left = ap (after 10) whole ∙ after-piece 10 rest (parted (x ∷ xs)) none;
      }

some_left : (xs : List ℕ) → has 10 xs ≡ true → all_read xs ≡ false
some_left [] h = cc
some_left (x ∷ xs) h = refl

-- so does a reader that stands before it
module _ {A : Type 0} (rule : Row → Result A Bad) (a : A) (written rest : List ℕ) (back : ReadsAs rule written a rest) (p : Place) (here : p.rest ≡ written ++ rest) where
  pub next-said : cond (all_read p.rest) (Ok None) (and_then (line_at p) (λ l. and_then (judged_line l (rule (row_of l.bytes))) (λ s. Ok (Some s)))) ≡ Ok (Some a)
  next-said = rw (here, some_left (written ++ rest) back.ended, back.ended, back.said) refl

  pub next-left : (after_line p).rest ≡ rest
  next-left = rw (here, back.ended) back.left

-- elements whose fields are read back, and have no tab and no byte 10
module _ {T : Type 0} (fields_of : T → List (List ℕ)) (reads : Row → Result T Bad) (InRange : T → Type 0)
    (back : (x : T) → InRange x → (t : ℕ) → reads (record { left = fields_of x; taken = t }) ≡ Ok x)
    (lack : (s : ℕ) → s < 11 → (x : T) → InRange x → Lack s (fields_of x)) where
  -- a line of a word and a number
  counted : (word : List ℕ) (n : ℕ) (l : SheetLine T) → has 9 word ≡ false → has 10 word ≡ false → n < 10 ^ 10 → sheet_line reads (record { left = word ∷ decimal n ∷ []; taken = 0 }) ≡ Ok l → (rest : List ℕ) → ReadsAs (sheet_line reads) (line_of (word ∷ decimal n ∷ [])) l rest
  counted word n l tabs ends small e rest =
      reads-line word (decimal n ∷ [])
      (tabs, (decimal-lacks 9 n (omega arith) (omega arith), tt))
      (ends, (decimal-lacks 10 n (omega arith) (omega arith), tt))
      rest (sheet_line reads) l e

  said : (l : SheetLine T) → LineInRange InRange l → (rest : List ℕ) → ReadsAs (sheet_line reads) (sheet_bytes fields_of l) l rest
  said (SheetLine.Post w x) (small, ok) = λ rest.
      reads-line (codes "post") (decimal w ∷ fields_of x)
      (refl, (decimal-lacks 9 w (omega arith) (omega arith), lack 9 (omega arith) x ok))
      (refl, (decimal-lacks 10 w (omega arith) (omega arith), lack 10 (omega arith) x ok))
      rest (sheet_line reads) (SheetLine.Post w x) (rw (within-back 0 255 w (omega arith) (omega arith) (omega arith), back x ok 2) refl)
  said (SheetLine.Fetch w) small = counted (codes "fetch") w (SheetLine.Fetch w) refl refl (omega arith) (rw (within-back 0 255 w (omega arith) (omega arith) (omega arith)) refl)
  said (SheetLine.Step w) small = counted (codes "step") w (SheetLine.Step w) refl refl (omega arith) (rw (within-back 0 255 w (omega arith) (omega arith) (omega arith)) refl)
  said (SheetLine.Turn c) (some, small) = counted (codes "turn") c (SheetLine.Turn c) refl refl (omega arith) (rw (within-back 1 1000000 c (omega arith) (omega arith) (omega arith)) refl)

  pub line-back : (l : SheetLine T) → LineInRange InRange l → (rest : List ℕ) → ReadsAs (sheet_line reads) (sheet_bytes fields_of l) l rest × NextLine reads (sheet_bytes fields_of l) l rest
  line-back l ok rest =
      let r = said l ok rest in
      (r, λ p here. (next-said (sheet_line reads) l (sheet_bytes fields_of l) rest r p here, next-left (sheet_line reads) l (sheet_bytes fields_of l) rest r p here))

pub kind-back : (k : ElementKind) (rest : List ℕ) → ReadsAs kind_line (kind_bytes k) k rest
kind-back ElementKind.Bundle rest = reads-line (codes "kind") (element_word ElementKind.Bundle ∷ []) (refl, (refl, tt)) (refl, (refl, tt)) rest kind_line ElementKind.Bundle refl
kind-back ElementKind.Landing rest = reads-line (codes "kind") (element_word ElementKind.Landing ∷ []) (refl, (refl, tt)) (refl, (refl, tt)) rest kind_line ElementKind.Landing refl
