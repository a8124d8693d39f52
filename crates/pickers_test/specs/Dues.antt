-- The due numbers of three workers.
use Rattle.std.specs.Prelude.{ℕ, cond, not, ◌||◌, ◌==◌}

-- the due number of the worker b, if those of 0, 1 and 2 are x, y and z
abbrev pub due_of : ℕ → ℕ → ℕ → ℕ → ℕ
due_of x y z b = cond (b == 0) x (cond (b == 1) y z)

-- the least number from 2 on that is neither a nor b
abbrev pub free : ℕ → ℕ → ℕ
free a b = cond (not (a == 2 || b == 2)) 2 (cond (not (a == 3 || b == 3)) 3 4)
