-- A row of workers: which workers it names, and whether a frame of a crew of n can have it.
use Rattle.std.specs.Prelude.{ℕ, zero, suc, Bool, true, cond, not, ◌&&◌, ◌||◌, List, [], ◌∷◌, ◌++◌, length, Ok, Err, Result, ◌==◌, nat_lt}
use Rattle.std.specs.List.{list_all, list_any}
use Rattle.vocabulary.specs.declared.refusal.Refusal.{Refusal}
use Rattle.vocabulary.specs.declared.refusal.Refusal.TheVariants.{FrameLength, ForeignWorker, WorkerLeftOut}

-- whether the row names the worker b
abbrev pub names : List ℕ → ℕ → Bool
names ws b = list_any (λ w. w == b) ws

-- whether every worker that the row names is below n
abbrev pub all_below : ℕ → List ℕ → Bool
all_below n ws = list_all (λ w. nat_lt w n) ws

-- whether the row names every worker below n
abbrev pub all_named : ℕ → List ℕ → Bool
all_named zero ws = true
all_named (suc n) ws = names ws n && all_named n ws

-- whether the row is empty or longer than 64
abbrev pub bad_length : List ℕ → Bool
bad_length ws = length ws == 0 || nat_lt 64 (length ws)

-- the answer to a row that is to fill a frame of a crew of n: the first check that fails says why not
abbrev pub judged : ℕ → List ℕ → Result (Unit {0}) Refusal
judged n ws = cond (bad_length ws) (Err FrameLength) (cond (not (all_below n ws)) (Err ForeignWorker) (cond (not (all_named n ws)) (Err WorkerLeftOut) (Ok tt)))

-- the row 0 1 .. n - 1
abbrev pub up_to : ℕ → List ℕ
up_to zero = []
up_to (suc n) = up_to n ++ n ∷ []
