-- What asking any picker until it names a worker comes to.
use Rattle.std.specs.Prelude.{◌≡◌, ℕ, ◌+◌, ◌≤◌, false, List, [], ◌∷◌, ◌++◌, length}
use Rattle.pickers.specs.Frames.{names}
use Rattle.pickers.specs.Meaning.{Naming, Fairness}

-- the ghost members of a picker
pub record Members (S : Type 0) : Type 0 where
  pub crew : S → ℕ
  pub window : S → ℕ
  pub due : S → ℕ → ℕ

-- the members as one record
abbrev pub members : {S : Type 0} → (S → ℕ) → (S → ℕ) → (S → ℕ → ℕ) → Members S
members n w d = record { crew = n; window = w; due = d }

-- one ask of the picker p that names w and leaves q
pub record Step {S : Type 0} (m : Members S) (p : S) (w : ℕ) (q : S) : Type 0 where
  pub naming : Naming (m.crew p) (m.window p) w (m.crew q) (m.window q)
  pub fairness : Fairness (m.crew p) (m.window p) (m.due p) w (m.due q)

-- asks of the picker p that name the workers ws in turn and leave q
abbrev pub Asked : {S : Type 0} → Members S → S → List ℕ → S → Type 0
Asked m p [] q = p ≡ q
Asked {S} m p (w ∷ ws) q = (next : S) × Step m p w next × Asked m next ws q

-- count asks name the worker b last and not before, and they are no more than its due number
pub record Until {S : Type 0} (m : Members S) (p : S) (b count : ℕ) (q : S) : Type 0 where
  pub before : List ℕ
  pub not_before : names before b ≡ false
  pub counted : count ≡ length before + 1
  pub asked : Asked m p (before ++ b ∷ []) q
  pub in_time : count ≤ m.due p b
