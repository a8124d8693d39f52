-- Fields taken one after another into a row of workers give the row of all of them.
use Rattle.std.proofs.Common.{◌≡◌, ℕ, ◌+◌, ◌<◌, ◌≤◌, true, false, cond, ltb, List, [], ◌∷◌, ◌++◌, map, length, take, Some, None, Ok, Err, Option, Result, sym, refl, ap, ◌∙◌, inl, inr, arith}
use Rattle.std.proofs.lemmas.List.{append-nil, append_assoc, map-append, length-map, length-append, length-take-le, take_all, take-append-le}
use Rattle.std.proofs.lemmas.Bool.{both_ways, cases_lt, lt-ltb}
use Rattle.vocabulary.specs.declared.refusal.Refusal.TheVariants.{Format}
use Rattle.texts.specs.declared.fault.Bad.{Bad}
use Rattle.texts.specs.Cards.{workers_of}
use Rattle.texts.specs.Lines.{kept_or, no_fields, number_at, and_then}
use Rattle.texts.specs.Numbers.{number_of, within}
use Rattle.texts.specs.Workers.{byte_of, kept_all, kept_all_or}

-- one worker more, if fewer than 65 are kept
abbrev pub kept : List ℕ → ℕ → List ℕ
kept ws w = cond (ltb (length ws) 65) (ws ++ byte_of w ∷ []) ws

-- the fields xs, taken into a row that has the workers ws already
abbrev pub gather : List ℕ → ℕ → List (List ℕ) → Result (List ℕ) Bad
gather ws t [] = Ok ws
gather ws t (x ∷ xs) = and_then (kept_or (record { field = t + 1; number = Format }) (within 0 9999999999 (number_of x))) (λ w. gather (kept ws w) (t + 1) xs)

-- one worker more is kept of a row as of its bytes
module _ (us : List ℕ) (w : ℕ) where
  joined : map byte_of (us ++ w ∷ []) ≡ map byte_of us ++ byte_of w ∷ []
  joined = map-append byte_of us (w ∷ [])

  kept-room : length us < 65 → kept (kept_all us) w ≡ kept_all (us ++ w ∷ [])
  kept-room l =
      let n = length-map us byte_of in
      let whole : take 65 (map byte_of us) ≡ map byte_of us = take_all 65 (map byte_of us) (omega arith) in
      let longer : take 65 (map byte_of us ++ byte_of w ∷ []) ≡ map byte_of us ++ byte_of w ∷ [] = take_all 65 (map byte_of us ++ byte_of w ∷ []) (omega (arith, length-append (map byte_of us) (byte_of w ∷ []))) in
      rw (joined, longer, whole, n, lt-ltb (length us) 65 l) refl

  kept_full : 65 ≤ length us → kept (kept_all us) w ≡ kept_all (us ++ w ∷ [])
  kept_full l =
      let n = length-map us byte_of in
      let full : length (take 65 (map byte_of us)) ≡ 65 = length-take-le 65 (map byte_of us) (omega arith) in
      let same : take 65 (map byte_of us ++ byte_of w ∷ []) ≡ take 65 (map byte_of us) = take-append-le 65 (map byte_of us) (byte_of w ∷ []) (omega arith) in
      rw (joined, same, full) refl

  kept_more : kept (kept_all us) w ≡ kept_all (us ++ w ∷ [])
  kept_more = elim (cases_lt (length us) 65) [ inl l ↦ kept-room l | inr l ↦ kept_full l ]

-- what came before and what is gathered stand one after the other
after_first : (us : List ℕ) (w : ℕ) (r : Result (List ℕ) Bad) → ◌≡◌ {A = Result (List ℕ) Bad} (and_then r (λ ws. Ok (kept_all ((us ++ w ∷ []) ++ ws)))) (and_then (and_then r (λ ws. Ok (w ∷ ws))) (λ ws. Ok (kept_all (us ++ ws))))
after_first us w (Ok ws) = ap (λ vs. Ok (kept_all vs)) (append_assoc us (w ∷ []) ws)
after_first us w (Err b) = refl

gather-from : (us : List ℕ) (t : ℕ) (xs : List (List ℕ)) → gather (kept_all us) t xs ≡ and_then (workers_of t xs) (λ ws. Ok (kept_all (us ++ ws)))
gather-from us t [] = ap (λ vs. Ok (kept_all vs)) (sym (append-nil us))
gather-from us t (x ∷ xs) = go (within 0 9999999999 (number_of x)) (λ w. gather-from (us ++ w ∷ []) (t + 1) xs)
  where
    bad : Bad
    bad = record { field = t + 1; number = Format }

    go : (o : Option ℕ) → ((w : ℕ) → gather (kept_all (us ++ w ∷ [])) (t + 1) xs ≡ and_then (workers_of (t + 1) xs) (λ ws. Ok (kept_all ((us ++ w ∷ []) ++ ws)))) → and_then (kept_or bad o) (λ w. gather (kept (kept_all us) w) (t + 1) xs) ≡ and_then (and_then (kept_or bad o) (λ w. and_then (workers_of (t + 1) xs) (λ ws. Ok (w ∷ ws)))) (λ ws. Ok (kept_all (us ++ ws)))
    go None rest = refl
    go (Some w) rest = ap (λ vs. gather vs (t + 1) xs) (kept_more us w) ∙ rest w ∙ after_first us w (workers_of (t + 1) xs)

all-or : (r : Result (List ℕ) Bad) → and_then r (λ ws. Ok (kept_all ws)) ≡ kept_all_or r
all-or (Ok ws) = refl
all-or (Err b) = refl

pub gather-all : (t : ℕ) (xs : List (List ℕ)) → gather [] t xs ≡ kept_all_or (workers_of t xs)
gather-all t xs = gather-from [] t xs ∙ all-or (workers_of t xs)

-- the end of the row, and a field that is no number
pub gather-end : (ws : List ℕ) (t : ℕ) (xs : List (List ℕ)) (u : ℕ) (ys : List (List ℕ)) → no_fields xs ≡ true → gather ws t xs ≡ gather [] u ys → Ok ws ≡ kept_all_or (workers_of u ys)
gather-end ws t [] u ys n e = e ∙ gather-all u ys
gather-end ws t (x ∷ xs) u ys n e = absurd (both_ways false refl n)

pub gather-bad : (ws : List ℕ) (t : ℕ) (xs : List (List ℕ)) (u : ℕ) (ys : List (List ℕ)) (b : Bad) → no_fields xs ≡ false → Err b ≡ number_at 0 9999999999 (record { left = xs; taken = t }) → gather ws t xs ≡ gather [] u ys → Err b ≡ kept_all_or (workers_of u ys)
gather-bad ws t [] u ys b n h e = absurd (both_ways true n refl)
gather-bad ws t (x ∷ xs) u ys b n h e = ap (λ r. and_then r (λ w. gather (kept ws w) (t + 1) xs)) h ∙ e ∙ gather-all u ys
