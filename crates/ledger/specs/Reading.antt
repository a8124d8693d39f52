-- What is written is read back as the same value.
use Rattle.std.specs.Prelude.{◌≡◌, ℕ, ◌^◌, ◌<◌, ◌≤◌, true, List, ◌++◌, ℤ, Some, Ok, decimal, Result}
use Rattle.std.specs.Fmt.{signed_decimal}
use Rattle.vocabulary.specs.declared.bundle.Bundle.{Bundle}
use Rattle.vocabulary.specs.declared.kind.ElementKind.{ElementKind}
use Rattle.vocabulary.specs.declared.landing.Landing.{Landing}
use Rattle.vocabulary.specs.Hits.{in_bounds}
use Rattle.texts.specs.declared.fault.Bad.{Bad}
use Rattle.texts.specs.declared.sheet.SheetLine.{SheetLine}
use Rattle.texts.specs.Cuts.{before, after, has}
use Rattle.texts.specs.Elements.{bundle_of, landing_of}
use Rattle.texts.specs.Lines.{Row, row_of}
use Rattle.texts.specs.Numbers.{number_of, coordinate_of}
use Rattle.texts.specs.Places.{Place, after_line}
use Rattle.texts.specs.Sheets.{kind_line, sheet_line, sheet_line_at}
use Rattle.ledger.specs.Elements.{bundle_fields, landing_fields}
use Rattle.ledger.specs.SheetLines.{kind_bytes, sheet_bytes}

-- the values that a sheet can have

pub record BundleInRange (b : Bundle) : Type 0 where
  pub field : b.field ≤ 255
  pub wavelength : b.wavelength ≤ 255
  pub rays : b.rays ≤ 65535

abbrev pub LandingInRange : Landing → Type 0
LandingInRange (Landing.Lost s) = s ≤ 255
LandingInRange (Landing.Hit x y) = (in_bounds x ≡ true) × (in_bounds y ≡ true)

abbrev pub LineInRange : {T : Type 0} → (T → Type 0) → SheetLine T → Type 0
LineInRange ElementInRange (SheetLine.Post w x) = (w ≤ 255) × ElementInRange x
LineInRange ElementInRange (SheetLine.Fetch w) = w ≤ 255
LineInRange ElementInRange (SheetLine.Step w) = w ≤ 255
LineInRange ElementInRange (SheetLine.Turn c) = (1 ≤ c) × (c ≤ 1000000)

-- written bytes and any rest of a text after them: they are an ended line, of which a rule for its fields gives the value,
-- and after that line comes the rest
pub record ReadsAs {A : Type 0} (rule : Row → Result A Bad) (written : List ℕ) (a : A) (rest : List ℕ) : Type 0 where
  pub ended : has 10 (written ++ rest) ≡ true
  pub said : rule (row_of (before 10 (written ++ rest))) ≡ Ok a
  pub left : after 10 (written ++ rest) ≡ rest

-- wherever a reader stands before written bytes, its next line is the line that was written, and it stands before the
-- rest then
abbrev pub NextLine : {T : Type 0} → (Row → Result T Bad) → List ℕ → SheetLine T → List ℕ → Type 0
NextLine reads written line rest = (p : Place) → p.rest ≡ written ++ rest → (sheet_line_at reads p ≡ Ok (Some line)) × ((after_line p).rest ≡ rest)

pub record ReadsBack : Type 0 where
  -- a number that ten digits can write
  pub numbers : (n : ℕ) → n < 10 ^ 10 → number_of (decimal n) ≡ Some n
  pub coordinates : (c : ℤ) → in_bounds c ≡ true → coordinate_of (signed_decimal c) ≡ Some c
  -- the fields of an element, however many were taken before them
  pub bundles : (b : Bundle) → BundleInRange b → (taken : ℕ) → bundle_of (record { left = bundle_fields b; taken = taken }) ≡ Ok b
  pub landings : (l : Landing) → LandingInRange l → (taken : ℕ) → landing_of (record { left = landing_fields l; taken = taken }) ≡ Ok l
  -- a line of a sheet
  pub kinds : (k : ElementKind) (rest : List ℕ) → ReadsAs kind_line (kind_bytes k) k rest
  pub bundle_lines : (l : SheetLine Bundle) → LineInRange BundleInRange l → (rest : List ℕ) → ReadsAs (sheet_line bundle_of) (sheet_bytes bundle_fields l) l rest × NextLine bundle_of (sheet_bytes bundle_fields l) l rest
  pub landing_lines : (l : SheetLine Landing) → LineInRange LandingInRange l → (rest : List ℕ) → ReadsAs (sheet_line landing_of) (sheet_bytes landing_fields l) l rest × NextLine landing_of (sheet_bytes landing_fields l) l rest
