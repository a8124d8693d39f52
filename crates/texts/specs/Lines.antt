-- How the fields of a line are taken, one after another. The first that breaks its rule is the bad one.
use Rattle.std.specs.Prelude.{ℕ, ◌+◌, Bool, true, false, cond, List, [], ◌∷◌, ℤ, Some, None, Ok, Err, Option, Result}
use Rattle.std.specs.Borrow.{Bor}
use Rattle.std.specs.Str.{bytes_eq}
use Rattle.vocabulary.specs.declared.refusal.Refusal.TheVariants.{Format}
use Rattle.texts.specs.declared.fault.Bad.{Bad}
use Rattle.texts.specs.declared.fields.Fields.{Fields}
use Rattle.texts.specs.Cuts.{cut}
use Rattle.texts.specs.Numbers.{number_of, within, coordinate_of}

-- what is left of a line: its fields, and how many were taken before them
pub record Row : Type 0 where
  pub left : List (List ℕ)
  pub taken : ℕ

-- a line's fields are parted by tabs, byte 9
abbrev pub row_of : List ℕ → Row
row_of line = record { left = cut 9 line; taken = 0 }

-- the fields of the rest of a line; none, if there is no rest
abbrev pub fields_in : Option (Bor (List ℕ)) → List (List ℕ)
fields_in None = []
fields_in (Some r) = cut 9 r.now

-- the row that the code's fields stand for
abbrev pub row : Fields → Row
row f = record { left = fields_in f.rest; taken = f.taken }

-- the row without its first field
abbrev pub after_first : List (List ℕ) → ℕ → Row
after_first [] n = record { left = []; taken = n }
after_first (x ∷ xs) n = record { left = xs; taken = n + 1 }

abbrev pub next_row : Row → Row
next_row v = after_first v.left v.taken

-- the next field breaks the format; a missing one has the number that it would have
abbrev pub bad_row : Row → Bad
bad_row v = record { field = v.taken + 1; number = Format }

-- a value that a rule gave, or the bad field
abbrev pub kept_or : {A : Type 0} → Bad → Option A → Result A Bad
kept_or bad None = Err bad
kept_or bad (Some a) = Ok a

-- the next field, judged by a rule that gives its value
abbrev pub by_rule : {A : Type 0} → Bad → (List ℕ → Option A) → List (List ℕ) → Result A Bad
by_rule bad rule [] = Err bad
by_rule bad rule (x ∷ xs) = kept_or bad (rule x)

-- one rule after another, up to the first bad field
abbrev pub and_then : {A B E : Type 0} → Result A E → (A → Result B E) → Result B E
and_then (Ok a) rule = rule a
and_then (Err e) rule = Err e

-- the next field as it stands
abbrev pub word_at : Row → Result (List ℕ) Bad
word_at v = by_rule (bad_row v) Some v.left

-- the next field is this word
abbrev pub keyword_at : List ℕ → Row → Result (Unit {0}) Bad
keyword_at word v = and_then (word_at v) (λ w. cond (bytes_eq w word) (Ok tt) (Err (bad_row v)))

-- the next field as a number from low to high
abbrev pub number_at : ℕ → ℕ → Row → Result ℕ Bad
number_at low high v = by_rule (bad_row v) (λ x. within low high (number_of x)) v.left

-- the next field as a coordinate
abbrev pub coordinate_at : Row → Result ℤ Bad
coordinate_at v = by_rule (bad_row v) coordinate_of v.left

-- whether no field is left
abbrev pub no_fields : List (List ℕ) → Bool
no_fields [] = true
no_fields (x ∷ xs) = false

-- no field is left; the first that is left is the bad one
abbrev pub none_left : Bad → List (List ℕ) → Result (Unit {0}) Bad
none_left bad [] = Ok tt
none_left bad (x ∷ xs) = Err bad

abbrev pub end_at : Row → Result (Unit {0}) Bad
end_at v = none_left (bad_row v) v.left

-- a number from low to high, and nothing after it
abbrev pub last_number : ℕ → ℕ → Row → Result ℕ Bad
last_number low high v = and_then (number_at low high v) (λ n. and_then (end_at (next_row v)) (λ _. Ok n))

-- a word by its bytes alone
abbrev pub bare : Result (Bor (List ℕ)) Bad → Result (List ℕ) Bad
bare (Ok w) = Ok w.now
bare (Err b) = Err b
