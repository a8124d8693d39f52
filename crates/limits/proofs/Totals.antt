-- Sums over the workers of a crew.
use Rattle.std.proofs.Common.{◌≡◌, ℕ, zero, suc, ◌+◌, ◌*◌, ◌<◌, ◌≤◌, ◌⊎◌, inl, inr, arith}
use Rattle.std.proofs.lemmas.Bool.{cases_eq}

abbrev pub total : (ℕ → ℕ) → ℕ → ℕ
total f zero = 0
total f (suc n) = total f n + f n

pub total-same : (f f' : ℕ → ℕ) (n : ℕ) → ((j : ℕ) → j < n → f' j ≤ f j) → total f' n ≤ total f n
total-same f f' zero h = omega arith
total-same f f' (suc n) h = let a = total-same f f' n (λ j l. h j (omega arith)) in let b = h n (omega arith) in omega arith

-- one of them falls by one, and none rises
pub total_falls : (f f' : ℕ → ℕ) (j n : ℕ) → j < n → ((k : ℕ) → k < n → f' k ≤ f k) → f' j + 1 ≤ f j → total f' n + 1 ≤ total f n
total_falls f f' j zero l h e = let z : ⊥ = omega arith in absurd z
total_falls f f' j (suc n) l h e = go (λ l. total_falls f f' j n l (λ k m. h k (omega arith)) e) (cases_eq j n)
  where
    go : (j < n → total f' n + 1 ≤ total f n) → (j ≡ n) ⊎ (j ≡ n → ⊥) → total f' (suc n) + 1 ≤ total f (suc n)
    go r (inl i) = let a = total-same f f' n (λ k m. h k (omega arith)) in let b : f' n + 1 ≤ f n = rw i at e in omega arith
    go r (inr i) = let a = r (omega arith) in let b = h n (omega arith) in omega arith

-- at most two each, and none for one of them
pub total-two : (f : ℕ → ℕ) (n : ℕ) → ((j : ℕ) → f j ≤ 2) → total f n ≤ 2 * n
total-two f zero h = omega arith
total-two f (suc n) h = let a = total-two f n h in let b = h n in omega arith

pub total-others : (f : ℕ → ℕ) (k n : ℕ) → k < n → ((j : ℕ) → f j ≤ 2) → f k ≡ 0 → total f n + 2 ≤ 2 * n
total-others f k zero l h e = let z : ⊥ = omega arith in absurd z
total-others f k (suc n) l h e = go (λ l. total-others f k n l h e) (cases_eq k n)
  where
    go : (k < n → total f n + 2 ≤ 2 * n) → (k ≡ n) ⊎ (k ≡ n → ⊥) → total f (suc n) + 2 ≤ 2 * suc n
    go r (inl i) = let a = total-two f n h in let b : f n ≡ 0 = rw i at e in omega arith
    go r (inr i) = let a = r (omega arith) in let b = h n in omega arith
