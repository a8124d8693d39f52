-- What is before, after and between separators, by places: the length of what is before tells all of it.
use Rattle.std.proofs.Common.{◌≡◌, ℕ, suc, ◌<◌, ◌≤◌, Bool, true, false, not, cond, eqb, ltb, List, [], ◌∷◌, length, take, drop, Option, Some, None, sym, ◌∙◌, refl, ap, inl, inr, arith}
use Rattle.std.specs.List.{position_or_len}
use Rattle.std.specs.Option.{unwrap_or}
use Rattle.std.proofs.lemmas.List.Sums.{prefix_len-le-length}
use Rattle.std.proofs.lemmas.List.Recursion.{is_position_or_len}
use Rattle.std.proofs.lemmas.Bool.{both_ways, cases_Bool, cases_lt, lt-ltb, le-ltb}
use Rattle.std.proofs.lemmas.Bool.Decides.{nat_tests}
use Rattle.texts.specs.Cuts.{before, after, has, cut, onto}

pub before-le : (s : ℕ) (xs : List ℕ) → length (before s xs) ≤ length xs
before-le s [] = omega arith
before-le s (x ∷ xs) = let r = before-le s xs in elim (cases_Bool (eqb x s)) [ inl t ↦ rw t (omega arith) | inr f ↦ rw f (omega arith) ]

pub before-is : (s : ℕ) (xs : List ℕ) → before s xs ≡ take (length (before s xs)) xs
before-is s [] = refl
before-is s (x ∷ xs) = elim (cases_Bool (eqb x s)) [ inl t ↦ rw t refl | inr f ↦ rw f (ap (λ ys. x ∷ ys) (before-is s xs)) ]

pub after_is : (s : ℕ) (xs : List ℕ) → after s xs ≡ drop (suc (length (before s xs))) xs
after_is s [] = refl
after_is s (x ∷ xs) = elim (cases_Bool (eqb x s)) [ inl t ↦ rw t refl | inr f ↦ rw f (after_is s xs) ]

pub has-is : (s : ℕ) (xs : List ℕ) → has s xs ≡ ltb (length (before s xs)) (length xs)
has-is s [] = refl
has-is s (x ∷ xs) = let r = has-is s xs in elim (cases_Bool (eqb x s)) [ inl t ↦ rw t (grind (arith, nat_tests)) | inr f ↦ rw f (grind (arith, nat_tests)) ]

-- the first piece, and the pieces of what comes after it
pub cut_step : (s : ℕ) (xs : List ℕ) → cut s xs ≡ before s xs ∷ cond (has s xs) (cut s (after s xs)) []
cut_step s [] = refl
cut_step s (x ∷ xs) = elim (cases_Bool (eqb x s)) [ inl t ↦ rw t refl | inr f ↦ rw f (ap (onto x) (cut_step s xs)) ]

-- the first place where a test passes, or else the length
pub first-or-length : {X : Type 0} (test : X → Bool) (xs : List X) (o : Option ℕ) → o ≡ cond (ltb (position_or_len test xs) (length xs)) (Some (position_or_len test xs)) None → unwrap_or o (length xs) ≡ position_or_len test xs
first-or-length test xs o e = go (position_or_len test xs) (length xs) o e (prefix_len-le-length (λ x. not (test x)) xs)
  where
    go : (n l : ℕ) (o : Option ℕ) → o ≡ cond (ltb n l) (Some n) None → n ≤ l → unwrap_or o l ≡ n
    go n l o e h = elim (cases_lt n l) [ inl t ↦ rw (e, lt-ltb n l t) refl | inr f ↦ rw (e, le-ltb n l f) (omega arith) ]

-- the length of what is before is the place of the first separator
pub before-place : (s : ℕ) (xs : List ℕ) (o : Option ℕ) → o ≡ cond (ltb (position_or_len (λ b. eqb b s) xs) (length xs)) (Some (position_or_len (λ b. eqb b s) xs)) None → unwrap_or o (length xs) ≡ length (before s xs)
before-place s xs o e = first-or-length (λ b. eqb b s) xs o e ∙ sym (is_position_or_len (λ ys. length (before s ys)) (λ b. eqb b s) refl (λ y ys. grind (arith, nat_tests)) xs)

-- what comes after a separator is shorter
pub after-shorter : (s : ℕ) (xs : List ℕ) → has s xs ≡ true → length (after s xs) < length xs
after-shorter s [] h = absurd (both_ways false refl h)
after-shorter s (x ∷ xs) h = let r = after-shorter s xs in elim (cases_Bool (eqb x s)) [ inl t ↦ rw t (omega arith) | inr f ↦ rw f (let q = r (rw f at h) in omega arith) ]
