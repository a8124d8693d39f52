-- Bytes cut at a separator.
use Rattle.std.specs.Prelude.{ℕ, Bool, false, cond, ◌||◌, List, [], ◌∷◌, ◌==◌}

-- the bytes before the first separator; all, if it does not occur
abbrev pub before : ℕ → List ℕ → List ℕ
before s [] = []
before s (x ∷ xs) = cond (x == s) [] (x ∷ before s xs)

-- the bytes after the first separator; none, if it does not occur
abbrev pub after : ℕ → List ℕ → List ℕ
after s [] = []
after s (x ∷ xs) = cond (x == s) xs (after s xs)

-- whether the separator occurs
abbrev pub has : ℕ → List ℕ → Bool
has s [] = false
has s (x ∷ xs) = x == s || has s xs

-- one byte more in front of the first piece
abbrev pub onto : ℕ → List (List ℕ) → List (List ℕ)
onto x [] = (x ∷ []) ∷ []
onto x (p ∷ ps) = (x ∷ p) ∷ ps

-- the pieces between separators: n separators make n + 1 pieces, of which any may be empty
abbrev pub cut : ℕ → List ℕ → List (List ℕ)
cut s [] = [] ∷ []
cut s (x ∷ xs) = cond (x == s) ([] ∷ cut s xs) (onto x (cut s xs))
