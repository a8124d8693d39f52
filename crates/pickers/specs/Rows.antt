-- A row that names every worker below n names each and has at least n places; a row that passes `all_below` n has only
-- numbers below n. The laws of a frame rest on this.
use Rattle.std.specs.Prelude.{◌≡◌, ℕ, zero, suc, ◌+◌, ◌<◌, ◌≤◌, true, false, cond, ◌||◌, List, [], ◌∷◌, length, ◌==◌, ◌≢◌, nat_lt, slice_index, refl}
use Rattle.std.proofs.Common.{arith, ap, ◌∙◌, inl, inr}
use Rattle.std.proofs.lemmas.Bool.{and_parts, cases_Bool, both_ways}
use Rattle.std.proofs.lemmas.Bool.Decides.{nat_tests, Decides-below_and}
use Rattle.pickers.specs.Frames.{names, all_below, all_named}

pub all_named-names : (n : ℕ) (ws : List ℕ) → all_named n ws ≡ true → (b : ℕ) → b < n → names ws b ≡ true
all_named-names n ws h =
    (Decides-below_and (names ws) (λ k. names ws k ≡ true) (λ m. all_named m ws) (λ k. ((λ e. e), (λ e. e))) refl (λ _. refl) n).0 h

pub all_named-from : (n : ℕ) (ws : List ℕ) → ((b : ℕ) → b < n → names ws b ≡ true) → all_named n ws ≡ true
all_named-from n ws h =
    (Decides-below_and (names ws) (λ k. names ws k ≡ true) (λ m. all_named m ws) (λ k. ((λ e. e), (λ e. e))) refl (λ _. refl) n).1 h

pub all_below-slice_index : (n : ℕ) (ws : List ℕ) (i : ℕ) → i < length ws → all_below n ws ≡ true → slice_index ws i < n
all_below-slice_index n [] i h e = omega arith
all_below-slice_index n (w ∷ ws) zero h e = grind (arith, nat_tests)
all_below-slice_index n (w ∷ ws) (suc i) h e = all_below-slice_index n ws i (omega arith) (and_parts (nat_lt w n) (all_below n ws) e).1

-- the row without the worker b, which names one worker fewer and is shorter
abbrev without : ℕ → List ℕ → List ℕ
without b [] = []
without b (w ∷ ws) = cond (w == b) (without b ws) (w ∷ without b ws)

without-le : (b : ℕ) (ws : List ℕ) → length (without b ws) ≤ length ws
without-le b [] = omega arith
without-le b (w ∷ ws) =
    let r = without-le b ws in
    elim (cases_Bool (w == b)) [ inl t ↦ rw t (omega arith) | inr f ↦ rw f (omega arith) ]

without-lt : (b : ℕ) (ws : List ℕ) → names ws b ≡ true → length (without b ws) + 1 ≤ length ws
without-lt b [] h = absurd (both_ways false refl h)
without-lt b (w ∷ ws) h =
    let r = without-le b ws in
    elim (cases_Bool (w == b)) [
      | inl t ↦ rw t (omega arith)
      | inr f ↦ rw f (let s = without-lt b ws (rw f at h) in omega arith)
    ]

names-without : (b : ℕ) (ws : List ℕ) (k : ℕ) → (k ≢ b) → names (without b ws) k ≡ names ws k
names-without b [] k ne = refl
names-without b (w ∷ ws) k ne =
    let r = names-without b ws k ne in
    elim (cases_Bool (w == b)) [
      | inl t ↦ rw t (let e : (w ≡ b) = grind (arith, nat_tests, t) in grind (arith, nat_tests, e))
      | inr f ↦ rw f (ap (λ y. (w == k) || y) r)
    ]

-- a row that names n workers has at least n places
pub all_named-length : (n : ℕ) (ws : List ℕ) → all_named n ws ≡ true → n ≤ length ws
all_named-length zero ws h = omega arith
all_named-length (suc n) ws h =
    let p = and_parts (names ws n) (all_named n ws) h in
    let q = without-lt n ws p.0 in
    let rest = all_named-from n (without n ws) (λ b l. names-without n ws b (omega arith) ∙ all_named-names n ws p.1 b l) in
    let fewer = all_named-length n (without n ws) rest in
    omega arith
