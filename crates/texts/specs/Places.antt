-- A text read line by line: its lines, and the faults of a missing, unended or surplus line.
use Rattle.std.specs.Prelude.{◌≡◌, ℕ, ◌+◌, ◌^◌, ◌<◌, ◌≤◌, Bool, true, false, cond, List, [], ◌∷◌, length, drop, Ok, Err, Result, nat_lt}
use Rattle.std.specs.Borrow.{Bor}
use Rattle.std.proofs.Common.{arith}
use Rattle.std.proofs.lemmas.List.{length-drop}
use Rattle.vocabulary.specs.declared.refusal.Refusal.TheVariants.{Format}
use Rattle.texts.specs.declared.fault.Bad.{Bad}
use Rattle.texts.specs.declared.fault.TextName.{TextName}
use Rattle.texts.specs.declared.reader.Line.{Line}
use Rattle.texts.specs.Cuts.{before, after, has}
use Rattle.texts.specs.Faults.{Spot, spot_of}
use Rattle.texts.specs.declared.fault.Fault.{Fault}

-- how far a text was read: the lines and the bytes that were read, and what is left
pub record Place : Type 0 where
  pub name : TextName
  -- where the text lies
  pub origin : ℕ × ℕ
  -- how many bytes the whole text has
  pub total : ℕ
  pub lines : ℕ
  pub start : ℕ
  pub rest : List ℕ

-- how a reader stands, as contracts see it: its place, and what is so of every reader's place
pub record Standing : Type 0 where
  pub place : Place
  pub within : place.start ≤ place.total
  pub left : length place.rest + place.start ≡ place.total
  -- every line that was read has its byte 10
  pub counted : place.lines ≤ place.start
  -- no slice is longer
  pub bounded : place.total < 2 ^ 63

-- what is left of a text and what was read of it are all of it
pub left-of : (xs : List ℕ) (a : ℕ) → a ≤ length xs → length (drop a xs) + a ≡ length xs
left-of xs a l = omega (arith, length-drop a xs)

-- a text before its first line
abbrev pub opening : TextName → Bor (List ℕ) → Place
opening name text = record { name = name; origin = text.ref_ptr; total = length text.now; lines = 0; start = 0; rest = text.now }

-- a line with its number, its bytes and where they lie
pub record LineSpot : Type 0 where
  pub text : TextName
  pub number : ℕ
  pub bytes : List ℕ
  pub address : ℕ × ℕ

abbrev pub line_spot : Line → LineSpot
line_spot l = record { text = l.text; number = l.number; bytes = l.bytes.now; address = l.bytes.ref_ptr }

abbrev pub lined : Result Line Fault → Result LineSpot Spot
lined (Ok l) = Ok (line_spot l)
lined (Err f) = Err (spot_of f)

-- the fault of a field of a line
abbrev pub bad_line : LineSpot → Bad → Spot
bad_line l b = record { text = l.text; line = l.number; field = b.field; number = b.number; part = l.bytes; address = l.address }

-- a line that is bad as a whole is bad at its first field
abbrev pub first_field : Bad
first_field = record { field = 1; number = Format }

-- the next line as it stands: all that is left before the next byte 10; at the text's end nothing
abbrev pub whole_line : Place → LineSpot
whole_line p = record { text = p.name; number = p.lines + 1; bytes = before 10 p.rest; address = (p.origin.0, p.start + p.origin.1) }

-- the next line, if byte 10 ends it; a missing line and one without its end are faults
abbrev pub line_at : Place → Result LineSpot Spot
line_at p = cond (has 10 p.rest) (Ok (whole_line p)) (Err (bad_line (whole_line p) first_field))

-- the place after the next line
abbrev pub next_place : Place → Place
next_place p = record { name = p.name; origin = p.origin; total = p.total; lines = p.lines + 1; start = p.start + length (before 10 p.rest) + 1; rest = after 10 p.rest }

abbrev pub after_line : Place → Place
after_line p = cond (has 10 p.rest) (next_place p) p

-- whether nothing is left
abbrev pub all_read : List ℕ → Bool
all_read [] = true
all_read (x ∷ xs) = false

-- no line is left; a surplus one is a fault
abbrev pub end_of_text : Place → Result (Unit {0}) Spot
end_of_text p = cond (all_read p.rest) (Ok tt) (Err (bad_line (whole_line p) first_field))

-- a text has at most 65,536 bytes
abbrev pub too_long : Place → Bool
too_long p = nat_lt 65536 p.total

-- a longer one is bad at line 0, field 0, with an empty part at its start
abbrev pub size_of : Place → Result (Unit {0}) Spot
size_of p = cond (too_long p) (Err (record { text = p.name; line = 0; field = 0; number = Format; part = []; address = p.origin })) (Ok tt)

-- a line of which a rule for its fields gave a value or named the bad one
abbrev pub judged_line : {A : Type 0} → LineSpot → Result A Bad → Result A Spot
judged_line l (Ok a) = Ok a
judged_line l (Err b) = Err (bad_line l b)
