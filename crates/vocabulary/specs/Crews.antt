-- Which numbers are crews, and the allowance of a crew.
use Rattle.std.specs.Prelude.{ℕ, ◌+◌, ◌*◌, cond, ◌||◌, Ok, Err, Result, nat_lt}
use Rattle.vocabulary.specs.declared.refusal.Refusal.{Refusal}
use Rattle.vocabulary.specs.declared.refusal.Refusal.TheVariants.{CrewSize}
use Rattle.vocabulary.specs.declared.crew.Crew.{Crew}

-- a crew by its number alone
abbrev pub sized : Result Crew Refusal → Result ℕ Refusal
sized (Ok c) = Ok c.n
sized (Err e) = Err e

-- 1 to 16
abbrev pub crew_of : ℕ → Result ℕ Refusal
crew_of n = cond (nat_lt n 1 || nat_lt 16 n) (Err CrewSize) (Ok n)

-- the steps that a worker of a crew of n makes at most while its order is unanswered
abbrev pub allowance : ℕ → ℕ
allowance n = 100 * n * (n + 1)
