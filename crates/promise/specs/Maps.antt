-- Functions from numbers, changed at one place.
use Rattle.std.specs.Prelude.{ℕ, cond, ◌==◌}

unfoldable pub put : {X : Type 0} → (ℕ → X) → ℕ → X → ℕ → X
put f i v j = cond (j == i) v (f j)
