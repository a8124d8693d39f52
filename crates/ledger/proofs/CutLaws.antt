-- Bytes cut at a separator that their pieces lack.
use Rattle.std.proofs.Common.{◌≡◌, ℕ, true, false, eqb, List, [], ◌∷◌, ◌++◌, refl, ap, ◌∙◌}
use Rattle.std.proofs.lemmas.List.{append-nil}
use Rattle.std.proofs.lemmas.Bool.{eq-eqb, or_parts, or_from}
use Rattle.texts.specs.Cuts.{before, after, has, onto, cut}
use Rattle.ledger.specs.Lines.{tabbed, parted}

-- no field has the byte s
abbrev pub Lack : ℕ → List (List ℕ) → Type 0
Lack s [] = Unit {0}
Lack s (x ∷ xs) = (has s x ≡ false) × Lack s xs

pub has-append : (s : ℕ) (xs ys : List ℕ) → has s xs ≡ false → has s ys ≡ false → has s (xs ++ ys) ≡ false
has-append s [] ys none h = h
has-append s (x ∷ xs) ys none h = let p = or_parts (eqb x s) (has s xs) none in or_from (eqb x s) (has s (xs ++ ys)) p.0 (has-append s xs ys p.1 h)

-- a piece that lacks the separator, and what comes behind the separator
module _ (s : ℕ) (ys : List ℕ) where
  same : eqb s s ≡ true
  same = eq-eqb s s refl

  pub before-piece : (xs : List ℕ) → has s xs ≡ false → before s (xs ++ s ∷ ys) ≡ xs
  before-piece [] none = rw same refl
  before-piece (x ∷ xs) none = let p = or_parts (eqb x s) (has s xs) none in rw p.0 (ap (λ zs. x ∷ zs) (before-piece xs p.1))

  pub after-piece : (xs : List ℕ) → has s xs ≡ false → after s (xs ++ s ∷ ys) ≡ ys
  after-piece [] none = rw same refl
  after-piece (x ∷ xs) none = let p = or_parts (eqb x s) (has s xs) none in rw p.0 (after-piece xs p.1)

  pub has-piece : (xs : List ℕ) → has s xs ≡ false → has s (xs ++ s ∷ ys) ≡ true
  has-piece [] none = rw same refl
  has-piece (x ∷ xs) none = let p = or_parts (eqb x s) (has s xs) none in rw p.0 (has-piece xs p.1)

  pub cut-piece : (xs : List ℕ) → has s xs ≡ false → cut s (xs ++ s ∷ ys) ≡ xs ∷ cut s ys
  cut-piece [] none = rw same refl
  cut-piece (x ∷ xs) none = let p = or_parts (eqb x s) (has s xs) none in rw p.0 (ap (onto x) (cut-piece xs p.1))

cut-last : (s : ℕ) (xs : List ℕ) → has s xs ≡ false → cut s xs ≡ xs ∷ []
cut-last s [] none = refl
cut-last s (x ∷ xs) none = let p = or_parts (eqb x s) (has s xs) none in rw p.0 (ap (onto x) (cut-last s xs p.1))

-- fields parted by tabs are cut into those fields
pub cut-parted : (x : List ℕ) (xs : List (List ℕ)) → Lack 9 (x ∷ xs) → cut 9 (parted (x ∷ xs)) ≡ x ∷ xs
cut-parted x [] none = rw append-nil (cut-last 9 x none.0)
cut-parted x (y ∷ ys) none = cut-piece 9 (parted (y ∷ ys)) x none.0 ∙ ap (λ zs. x ∷ zs) (cut-parted y ys none.1)

-- and have no byte 10, if none of them has
tabbed-lacks : (xs : List (List ℕ)) → Lack 10 xs → has 10 (tabbed xs) ≡ false
tabbed-lacks [] none = refl
tabbed-lacks (x ∷ xs) none = has-append 10 x (tabbed xs) none.0 (tabbed-lacks xs none.1)

pub parted-lacks : (xs : List (List ℕ)) → Lack 10 xs → has 10 (parted xs) ≡ false
parted-lacks [] none = refl
parted-lacks (x ∷ xs) none = has-append 10 x (tabbed xs) none.0 (tabbed-lacks xs none.1)
