-- What a card says: a crew, and how its workers are named in turn.
use Rattle.std.specs.Prelude.{ℕ, ◌+◌, cond, not, List, [], ◌∷◌, length, take, Some, None, Ok, Err, codes, Option, Result, ◌==◌, nat_lt}
use Rattle.std.specs.Str.{bytes_eq}
use Rattle.vocabulary.specs.declared.refusal.Refusal.{Refusal}
use Rattle.vocabulary.specs.declared.refusal.Refusal.TheVariants.{Format, FrameLength, ForeignWorker, WorkerLeftOut}
use Rattle.vocabulary.specs.declared.crew.Crew.{Crew}
use Rattle.vocabulary.specs.Crews.{crew_of}
use Rattle.pickers.specs.Frames.{all_below, all_named}
use Rattle.texts.specs.declared.card.Card.{Card}
use Rattle.texts.specs.declared.fault.Bad.{Bad}
use Rattle.texts.specs.declared.fault.Fault.{Fault}
use Rattle.texts.specs.Faults.{Spot, spot_of}
use Rattle.texts.specs.Lines.{Row, row_of, next_row, bad_row, kept_or, word_at, keyword_at, end_at, last_number, and_then}
use Rattle.texts.specs.Numbers.{number_of, within}
use Rattle.texts.specs.Places.{Place, line_at, after_line, size_of, judged_line, end_of_text}

-- a crew; the row of a frame, or none for rounds; and the place in the row, or the worker, that comes next
pub record CardSays : Type 0 where
  pub crew : ℕ
  pub row : Option (List ℕ)
  pub next : ℕ

-- what the code's card says
abbrev pub says : Card → CardSays
says (Card.Round p) = record { crew = p.crew.n; row = None; next = p.next }
says (Card.Frame p) = record { crew = p.crew.n; row = Some (take p.len p.places); next = p.at }

abbrev pub says_or : Result Card Bad → Result CardSays Bad
says_or (Ok c) = Ok (says c)
says_or (Err b) = Err b

abbrev pub crew_or : Result Crew Bad → Result ℕ Bad
crew_or (Ok c) = Ok c.n
crew_or (Err b) = Err b

-- a refusal, at a field of a line
abbrev pub at_field : {A : Type 0} → ℕ → Result A Refusal → Result A Bad
at_field i (Ok a) = Ok a
at_field i (Err e) = Err (record { field = i; number = e })

-- `crew` and a number; a number that is no crew is bad at field 2, once the line has its form
abbrev pub crew_line : Row → Result ℕ Bad
crew_line v = and_then (keyword_at (codes "crew") v) (λ _. and_then (last_number 0 9999999999 (next_row v)) (λ n. at_field 2 (crew_of n)))

-- the numbers of all fields that are left, of which `taken` were taken before; the leftmost that is no number is bad
abbrev pub workers_of : ℕ → List (List ℕ) → Result (List ℕ) Bad
workers_of taken [] = Ok []
workers_of taken (x ∷ xs) = and_then (kept_or (record { field = taken + 1; number = Format }) (within 0 9999999999 (number_of x))) (λ w. and_then (workers_of (taken + 1) xs) (λ ws. Ok (w ∷ ws)))

-- the place of the first worker that is not below n
abbrev pub first_foreign : ℕ → List ℕ → ℕ
first_foreign n [] = 0
first_foreign n (w ∷ ws) = cond (nat_lt w n) (first_foreign n ws + 1) 0

-- a row of workers that fills a frame of a crew of n, from field 3 on: its length is judged first, and then foreign
-- workers, the leftmost first, and workers left out
abbrev pub frame_of : ℕ → List ℕ → Result CardSays Bad
frame_of n ws = cond (length ws == 0) (Err (record { field = 3; number = FrameLength }))
    (cond (nat_lt 64 (length ws)) (Err (record { field = 67; number = FrameLength }))
    (cond (not (all_below n ws)) (Err (record { field = 3 + first_foreign n ws; number = ForeignWorker }))
    (cond (not (all_named n ws)) (Err (record { field = 2; number = WorkerLeftOut }))
    (Ok (record { crew = n; row = Some ws; next = 0 })))))

abbrev pub frame_line : ℕ → Row → Result CardSays Bad
frame_line n v = and_then (workers_of v.taken v.left) (frame_of n)

-- `round` with nothing after it, or `frame` with its workers
abbrev pub picker_word : ℕ → Row → Result CardSays Bad
picker_word n v = and_then (word_at v) (λ w. cond (bytes_eq w (codes "round")) (and_then (end_at (next_row v)) (λ _. Ok (record { crew = n; row = None; next = 0 })))
    (cond (bytes_eq w (codes "frame")) (frame_line n (next_row v)) (Err (bad_row v))))

-- `picker` and how it picks
abbrev pub picker_line : ℕ → Row → Result CardSays Bad
picker_line n v = and_then (keyword_at (codes "picker") v) (λ _. picker_word n (next_row v))

-- a card is judged by its size, its line 1, its line 2, and that nothing follows
abbrev pub card_of : Place → Result CardSays Spot
card_of p = and_then (size_of p) (λ _. and_then (line_at p) (λ l. and_then (judged_line l (crew_line (row_of l.bytes))) (λ n.
    and_then (line_at (after_line p)) (λ m. and_then (judged_line m (picker_line n (row_of m.bytes))) (λ c.
    and_then (end_of_text (after_line (after_line p))) (λ _. Ok c))))))

-- what a reading of a card gives: what the card says, or the fault and no card
abbrev pub card_read : Result Card Fault → Result CardSays Spot
card_read (Ok c) = Ok (says c)
card_read (Err f) = Err (spot_of f)
