-- Going round n places, from 0 to n - 1 and then from 0 again.
use Rattle.std.specs.Prelude.{ℕ, ◌+◌, ◌-◌, cond, nat_le, nat_lt}

-- the place after k
abbrev pub following : ℕ → ℕ → ℕ
following n k = cond (nat_lt (k + 1) n) (k + 1) 0

-- in which step the place b is visited, if k is visited in the first
abbrev pub steps_to : ℕ → ℕ → ℕ → ℕ
steps_to n k b = cond (nat_le k b) ((b - k) + 1) (((b + n) - k) + 1)
