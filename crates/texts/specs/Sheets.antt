-- What each line of a sheet says, or its leftmost bad field.
use Rattle.std.specs.Prelude.{ℕ, cond, List, Some, None, Ok, Err, codes, Option, Result}
use Rattle.std.specs.Str.{bytes_eq}
use Rattle.vocabulary.specs.declared.kind.ElementKind.{ElementKind}
use Rattle.vocabulary.specs.Kinds.{element_word}
use Rattle.texts.specs.declared.fault.Bad.{Bad}
use Rattle.texts.specs.declared.sheet.SheetLine.{SheetLine}
use Rattle.texts.specs.Faults.{Spot}
use Rattle.texts.specs.Lines.{Row, row_of, next_row, bad_row, word_at, keyword_at, number_at, end_at, last_number, and_then}
use Rattle.texts.specs.Places.{Place, line_at, after_line, size_of, too_long, judged_line, all_read}

-- a worker's number is 0 to 255
abbrev pub worker_then : {A : Type 0} → (ℕ → A) → Row → Result A Bad
worker_then make v = and_then (last_number 0 255 v) (λ w. Ok (make w))

-- a worker and the element that it posts
abbrev pub post_line : {T : Type 0} → (Row → Result T Bad) → Row → Result (SheetLine T) Bad
post_line reads v = and_then (number_at 0 255 v) (λ w. and_then (reads (next_row v)) (λ x. Ok (SheetLine.Post w x)))

-- `post`, `fetch`, `step` or `turn`, and what belongs to it; turns are 1 to 1,000,000
abbrev pub sheet_word : {T : Type 0} → (Row → Result T Bad) → Row → List ℕ → Result (SheetLine T) Bad
sheet_word reads v w = cond (bytes_eq w (codes "post")) (post_line reads (next_row v))
    (cond (bytes_eq w (codes "fetch")) (worker_then SheetLine.Fetch (next_row v))
    (cond (bytes_eq w (codes "step")) (worker_then SheetLine.Step (next_row v))
    (cond (bytes_eq w (codes "turn")) (and_then (last_number 1 1000000 (next_row v)) (λ c. Ok (SheetLine.Turn c)))
    (Err (bad_row v)))))

abbrev pub sheet_line : {T : Type 0} → (Row → Result T Bad) → Row → Result (SheetLine T) Bad
sheet_line reads v = and_then (word_at v) (sheet_word reads v)

-- the word of a kind of element, and nothing after it
abbrev pub kind_end : ElementKind → Row → Result ElementKind Bad
kind_end k v = and_then (end_at v) (λ _. Ok k)

abbrev pub kind_word : Row → Result ElementKind Bad
kind_word v = and_then (word_at v) (λ w. cond (bytes_eq w (element_word ElementKind.Bundle)) (kind_end ElementKind.Bundle (next_row v)) (cond (bytes_eq w (element_word ElementKind.Landing)) (kind_end ElementKind.Landing (next_row v)) (Err (bad_row v))))

-- `kind` and the word of a kind of element
abbrev pub kind_line : Row → Result ElementKind Bad
kind_line v = and_then (keyword_at (codes "kind") v) (λ _. kind_word (next_row v))

-- a sheet's size is judged first, and then its first line
abbrev pub kind_at : Place → Result ElementKind Spot
kind_at p = and_then (size_of p) (λ _. and_then (line_at p) (λ l. judged_line l (kind_line (row_of l.bytes))))

abbrev pub after_kind : Place → Place
after_kind p = cond (too_long p) p (after_line p)

-- what the next line says, none where nothing is left
abbrev pub sheet_line_at : {T : Type 0} → (Row → Result T Bad) → Place → Result (Option (SheetLine T)) Spot
sheet_line_at reads p = cond (all_read p.rest) (Ok None) (and_then (line_at p) (λ l. and_then (judged_line l (sheet_line reads (row_of l.bytes))) (λ s. Ok (Some s))))
