-- Maps changed at one place: what they are there and elsewhere.
use Rattle.std.proofs.Common.{◌≡◌, ℕ, eqb, ◌≢◌, ◌⊎◌, refl, inl, inr}
use Rattle.std.proofs.lemmas.Bool.{cond-true, cond-false, eq-eqb, ne_eqb, cases_eq}
use Rattle.promise.specs.Maps.{put}

pub put_same : {X : Type 0} (f : ℕ → X) (i : ℕ) (v : X) → put f i v i ≡ v
unfolding put
put_same f i v = cond-true (eqb i i) v (f i) (eq-eqb i i refl)

pub put_other : {X : Type 0} (f : ℕ → X) (i : ℕ) (v : X) (j : ℕ) → j ≢ i → put f i v j ≡ f j
unfolding put
put_other f i v j n = cond-false (eqb j i) v (f j) (ne_eqb j i n)

-- both cases, for `grind`
pub put-tells : {X : Type 0} (f : ℕ → X) (i : ℕ) (v : X) (j : ℕ) → ((put f i v j ≡ v) × (j ≡ i)) ⊎ ((put f i v j ≡ f j) × (j ≡ i → ⊥))
put-tells f i v j = go (cases_eq j i)
  where
    go : (j ≡ i) ⊎ (j ≡ i → ⊥) → ((put f i v j ≡ v) × (j ≡ i)) ⊎ ((put f i v j ≡ f j) × (j ≡ i → ⊥))
    go (inl e) = inl (rw e (put_same f i v), e)
    go (inr n) = inr (put_other f i v j n, n)
