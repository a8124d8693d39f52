-- Laws of maps and options beyond those of the promise's maps, and of the elements that a queue holds.
use Rattle.std.proofs.Common.{◌≡◌, ℕ, ◌+◌, ◌<◌, ◌≤◌, eqb, ◌≢◌, ◌⊎◌, List, [], ◌∷◌, ◌++◌, Some, None, Option, sym, refl, ◌∙◌, subst, inl, inr, arith}
use Rattle.std.proofs.lemmas.Bool.{cond-true, cond-false, eq-eqb, ne_eqb, cases_eq}
use Rattle.promise.specs.Maps.{put}
use Rattle.promise.proofs.MapLaws.{put_same, put_other}
use Rattle.linearization.proofs.Ghosts.{put2, Holds}

-- a fact of every place, after one was changed
pub put_all : {X : Type 0} (P : ℕ → X → Type 0) (f : ℕ → X) (i : ℕ) (v : X) → P i v → ((j : ℕ) → j ≢ i → P j (f j)) → (j : ℕ) → P j (put f i v j)
put_all P f i v h k j = go (cases_eq j i)
  where
    go : (j ≡ i) ⊎ (j ≡ i → ⊥) → P j (put f i v j)
    go (inl e) = subst (λ (x : ℕ). P x (put f i v x)) (sym e) (rw put_same h)
    go (inr n) = rw put_other (k j n)

pub put2-tells : {X : Type 0} (f : ℕ → ℕ → X) (i j : ℕ) (v : X) (a b : ℕ) → ((put2 f i j v a b ≡ v) × (a ≡ i) × (b ≡ j)) ⊎ (((put2 f i j v a b ≡ f a b) × (a ≡ i → ⊥)) ⊎ ((put2 f i j v a b ≡ f a b) × (b ≡ j → ⊥)))
unfolding put2
put2-tells f i j v a b = go (cases_eq a i) (cases_eq b j)
  where
    go : (a ≡ i) ⊎ (a ≡ i → ⊥) → (b ≡ j) ⊎ (b ≡ j → ⊥) → ((put2 f i j v a b ≡ v) × (a ≡ i) × (b ≡ j)) ⊎ (((put2 f i j v a b ≡ f a b) × (a ≡ i → ⊥)) ⊎ ((put2 f i j v a b ≡ f a b) × (b ≡ j → ⊥)))
    go (inl d) (inl e) = inl (cond-true (eqb a i) _ _ (eq-eqb a i d) ∙ cond-true (eqb b j) _ _ (eq-eqb b j e), d, e)
    go (inl d) (inr e) = inr (inr (cond-true (eqb a i) _ _ (eq-eqb a i d) ∙ cond-false (eqb b j) _ _ (ne_eqb b j e), e))
    go (inr d) e = inr (inl (cond-false (eqb a i) _ _ (ne_eqb a i d), d))

pub cases-option : {X : Type 0} (o : Option X) → (o ≡ None) ⊎ ((x : X) × (o ≡ Some x))
cases-option None = inl refl
cases-option (Some x) = inr (x, refl)

module _ {T : Type 0} (p : ℕ → ℕ) (f : ℕ → Option T) where
  pub holds-low : {i e : ℕ} {xs : List T} → Holds p f i e xs → i ≤ e
  holds-low Holds.none = omega arith
  holds-low (Holds.more a h) = let l = holds-low h in omega arith

  -- one more element at the end
  pub holds-append : {i e : ℕ} {xs : List T} {y : T} → f (p e) ≡ Some y → Holds p f i e xs → Holds p f i (e + 1) (xs ++ y ∷ [])
  holds-append a Holds.none = Holds.more a Holds.none
  holds-append a (Holds.more b h) = Holds.more b (holds-append a h)

  -- the first of at least one
  pub holds-first : {i e : ℕ} {xs : List T} → i < e → Holds p f i e xs → (y : T) × (rest : List T) × (xs ≡ y ∷ rest) × (f (p i) ≡ Some y) × Holds p f (i + 1) e rest
  holds-first l Holds.none = let z : ⊥ = omega arith in absurd z
  holds-first l (Holds.more {x = x} {xs = xs} a h) = (x, xs, refl, a, h)

  pub holds-empty : {i : ℕ} {xs : List T} {e : ℕ} → e ≤ i → Holds p f i e xs → xs ≡ []
  holds-empty l Holds.none = refl
  holds-empty l (Holds.more a h) = let b = holds-low h in let z : ⊥ = omega arith in absurd z

  -- the elements stay where no node at these positions changes, nor its element
  pub holds_kept : (q : ℕ → ℕ) (k : ℕ → Option T) {i e : ℕ} {xs : List T} → ((j : ℕ) (x : T) → j < e → f (p j) ≡ Some x → k (q j) ≡ Some x) → Holds p f i e xs → Holds q k i e xs
  holds_kept q k s Holds.none = Holds.none
  holds_kept q k s (Holds.more a h) = Holds.more (s _ _ (let l = holds-low h in omega arith) a) (holds_kept q k s h)
