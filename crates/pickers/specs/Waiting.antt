-- A row read round and round: every worker that it names is named within the row's length, and each step from one place to
-- the next brings every worker but the one named there one step nearer.
use Rattle.std.specs.Prelude.{◌≡◌, ℕ, ◌+◌, ◌<◌, ◌≤◌, true, false, List, [], ◌∷◌, ◌++◌, length, take, drop, ◌≢◌, nat_lt, slice_index, slice_index_or, refl, ◌==◌}
use Rattle.std.proofs.Common.{arith, sym, ap, ◌∙◌, inl, inr, length-append, length-take, length-drop, take-append-drop}
use Rattle.std.proofs.lemmas.List.{drop_more, take_more, append_assoc, append-nil, drop_all, take_all}
use Rattle.std.proofs.lemmas.List.Folds.{list_any-append}
use Rattle.std.proofs.lemmas.Bool.{ne_eqb, both_ways, cases_Bool, ltb-false}
use Rattle.std.proofs.lemmas.Bool.Decides.{nat_tests}
use Rattle.pickers.specs.Frames.{names}
use Rattle.pickers.specs.Turns.{following}
use Rattle.pickers.specs.Waits.{place_of, rotated, wait_from}

names-rotated : (k : ℕ) (ws : List ℕ) (b : ℕ) → names (rotated k ws) b ≡ names ws b
names-rotated k ws b =
    let e = list_any-append (λ w. w == b) (drop k ws) (take k ws) in
    let f = list_any-append (λ w. w == b) (take k ws) (drop k ws) in
    let g = ap (λ vs. names vs b) (take-append-drop k ws) in
    grind (arith, nat_tests)

place_of-lt : (ws : List ℕ) (b : ℕ) → names ws b ≡ true → place_of ws b < length ws
place_of-lt [] b h = absurd (both_ways false refl h)
place_of-lt (w ∷ ws) b h = let r = place_of-lt ws b in grind (arith, nat_tests)

place_of-append : (vs ws : List ℕ) (b : ℕ) → names vs b ≡ true → place_of (vs ++ ws) b ≡ place_of vs b
place_of-append [] ws b h = absurd (both_ways false refl h)
place_of-append (v ∷ vs) ws b h = let r = place_of-append vs ws b in grind (arith, nat_tests)

length-rotated : (k : ℕ) (ws : List ℕ) → k ≤ length ws → length (rotated k ws) ≡ length ws
length-rotated k ws h = simp (length-append, length-drop, length-take) (omega arith)

pub wait_from-le : (k : ℕ) (ws : List ℕ) (b : ℕ) → k ≤ length ws → names ws b ≡ true → wait_from k ws b ≤ length ws
wait_from-le k ws b l h =
    let s = place_of-lt (rotated k ws) b (names-rotated k ws b ∙ h) in
    let e = length-rotated k ws l in
    omega arith

-- the worker w moves from the front of a row to its end
place_of-moved : (w : ℕ) (ws : List ℕ) (b : ℕ) → (b ≢ w) → names (w ∷ ws) b ≡ true → place_of (ws ++ w ∷ []) b + 1 ≡ place_of (w ∷ ws) b
place_of-moved w ws b ne h =
    let f = ne_eqb w b (λ e. ne (sym e)) in
    let g = place_of-append ws (w ∷ []) b in
    grind (arith, nat_tests)

wait_from-next : (ws : List ℕ) (k : ℕ) (b : ℕ) → k < length ws → (b ≢ slice_index ws k) → names ws b ≡ true → wait_from (k + 1) ws b + 1 ≡ wait_from k ws b
wait_from-next ws k b l ne h =
    let w = slice_index_or ws k 0 in
    let others = drop (k + 1) ws ++ take k ws in
    let here : rotated k ws ≡ w ∷ others = ap (λ vs. vs ++ take k ws) (drop_more ws k 0 l) in
    let next : rotated (k + 1) ws ≡ others ++ w ∷ [] = ap (λ vs. drop (k + 1) ws ++ vs) (take_more ws k 0 l) ∙ sym (append_assoc (drop (k + 1) ws) (take k ws) (w ∷ [])) in
    let named : names (w ∷ others) b ≡ true = rw here at (names-rotated k ws b ∙ h) in
    rw (next, here) (ap (λ n. n + 1) (place_of-moved w others b ne named))

-- past the last place comes the first
wait_from-end : (ws : List ℕ) (k : ℕ) (b : ℕ) → k ≡ length ws → wait_from 0 ws b ≡ wait_from k ws b
wait_from-end ws k b e =
    let once : rotated k ws ≡ rotated 0 ws = rw (drop_all k ws (omega arith), take_all k ws (omega arith)) (sym (rw append-nil refl)) in
    ap (λ vs. place_of vs b + 1) (sym once)

pub wait_from-following : (ws : List ℕ) (k : ℕ) (b : ℕ) → k < length ws → (b ≢ slice_index ws k) → names ws b ≡ true → wait_from (following (length ws) k) ws b + 1 ≡ wait_from k ws b
wait_from-following ws k b l ne h =
    let one_on = wait_from-next ws k b l ne h in
    elim (cases_Bool (nat_lt (k + 1) (length ws))) [
      | inl t ↦ rw t one_on
      | inr f ↦ rw f (ap (λ n. n + 1) (wait_from-end ws (k + 1) b (omega (arith, ltb-false (k + 1) (length ws) f))) ∙ one_on)
    ]
