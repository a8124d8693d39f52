-- The row of fields that is left of a line, by the place of the next tab.
use Rattle.std.proofs.Common.{◌≡◌, ℕ, ◌+◌, ◌<◌, ◌≤◌, Bool, true, false, not, List, [], length, take, Some, None, Ok, Option, Result, sym, refl, ap, ◌∙◌, ◌⊎◌, add-one, arith}
use Rattle.std.specs.Borrow.{Bor}
use Rattle.std.specs.List.{slice_range}
use Rattle.std.specs.Option.{MatchOption, is_some}
use Rattle.std.proofs.lemmas.List.{take_rest}
use Rattle.std.proofs.lemmas.Bool.{lt-ltb, le-ltb}
use Rattle.texts.specs.declared.fault.Bad.{Bad}
use Rattle.texts.specs.Cuts.{before, after, has, cut}
use Rattle.texts.specs.Lines.{Row, fields_in, word_at, next_row, no_fields}
use Rattle.texts.proofs.CutLaws.{cut_step, has-is, after_is, before-is}

-- a line of which xs is left, and of which the first tab stands at n, or n is its length
module _ (xs : List ℕ) (t n : ℕ) (here : n ≡ length (before 9 xs)) where
  pub word-is : ◌≡◌ {A = Result (List ℕ) Bad} (Ok (take n xs)) (word_at (record { left = cut 9 xs; taken = t }))
  word-is = rw (cut_step 9 xs, here) (ap Ok (sym (before-is 9 xs)))

  next-ended : has 9 xs ≡ false → ◌≡◌ {A = Row} (record { left = []; taken = t + 1 }) (next_row (record { left = cut 9 xs; taken = t }))
  next-ended f = rw (cut_step 9 xs, f) refl

  next-goes : (ys : List ℕ) → has 9 xs ≡ true → ys ≡ after 9 xs → ◌≡◌ {A = Row} (record { left = cut 9 ys; taken = t + 1 }) (next_row (record { left = cut 9 xs; taken = t }))
  next-goes ys h e = rw (cut_step 9 xs, h, e) refl

  pub next-is : (tail : Option (Bor (List ℕ))) → MatchOption tail ((length xs < n + 1) ⊎ (length xs < length xs)) (λ r. (n + 1 ≤ length xs) × (length xs ≤ length xs) × (r.now ≡ slice_range xs (n + 1) (length xs)) × (length r.now + (n + 1) ≡ length xs)) → ◌≡◌ {A = Row} (record { left = fields_in tail; taken = t + 1 }) (next_row (record { left = cut 9 xs; taken = t }))
  next-is None l = next-ended (has-is 9 xs ∙ le-ltb _ _ (omega arith))
  next-is (Some r) p = next-goes r.now (has-is 9 xs ∙ lt-ltb _ _ (omega arith)) (p.2 ∙ take_rest xs (n + 1) ∙ rw (after_is 9 xs, ← here, add-one) refl)

-- a row is empty exactly where no rest of the line is left
pub row-empty : (rest : Option (Bor (List ℕ))) (none : Bool) → is_some rest ≡ not none → none ≡ no_fields (fields_in rest)
row-empty None true e = refl
row-empty None false e = cc
row-empty (Some r) true e = cc
row-empty (Some r) false e = rw (cut_step 9 r.now) refl
