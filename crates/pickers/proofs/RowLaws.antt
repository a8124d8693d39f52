-- What the checks of a row say: all workers below n are gone through from 0 on, and the row 0 1 .. n - 1 passes both checks.
use Rattle.std.specs.Prelude.{◌≡◌, ℕ, zero, suc, ◌+◌, ◌<◌, ◌≤◌, true, ◌&&◌, List, [], ◌∷◌, nat_lt, refl, ◌==◌}
use Rattle.std.specs.List.{list_all, range_with_len}
use Rattle.std.proofs.Common.{arith}
use Rattle.std.proofs.lemmas.List.Folds.{list_all-append, list_any-append}
use Rattle.std.proofs.lemmas.Bool.Decides.{nat_tests}
use Rattle.pickers.specs.Frames.{names, all_below, all_named, up_to}
use Rattle.pickers.specs.Rows.{all_named-from}

-- the workers below n, one after another, are all named
named-more : (ws : List ℕ) (a n k : ℕ) → a + n ≡ k → list_all (names ws) (range_with_len a (n + 1)) ≡ (list_all (names ws) (range_with_len a n) && names ws k)
named-more ws a zero k h = let e : a ≡ k = omega arith in rw e (grind arith)
named-more ws a (suc n) k h = let r = named-more ws (a + 1) n k (omega arith) in grind (arith)

pub all_named-list_all : (n : ℕ) (ws : List ℕ) → list_all (names ws) (range_with_len 0 n) ≡ all_named n ws
all_named-list_all zero ws = refl
all_named-list_all (suc n) ws = let r = all_named-list_all n ws in let m = named-more ws 0 n n (omega arith) in grind (arith)

-- the row 0 1 .. n - 1 names every worker below n and no other
all_below-up_to : (m n : ℕ) → n ≤ m → all_below m (up_to n) ≡ true
all_below-up_to m zero h = refl
all_below-up_to m (suc n) h = let r = all_below-up_to m n (omega arith) in let e = list_all-append (λ w. nat_lt w m) (up_to n) (n ∷ []) in grind (arith, nat_tests)

names-up_to : (n b : ℕ) → b < n → names (up_to n) b ≡ true
names-up_to zero b h = let none : ⊥ = omega arith in absurd none
names-up_to (suc n) b h = let r = names-up_to n b in let e = list_any-append (λ w. w == b) (up_to n) (n ∷ []) in grind (arith, nat_tests)

pub up_to-all_below : (n : ℕ) → all_below n (up_to n) ≡ true
up_to-all_below n = all_below-up_to n n (omega arith)

pub up_to-all_named : (n : ℕ) → all_named n (up_to n) ≡ true
up_to-all_named n = all_named-from n (up_to n) (names-up_to n)
