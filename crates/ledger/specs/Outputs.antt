-- Bytes written into an output of which the first n bytes are written: all of them, or none.
use Rattle.std.specs.Prelude.{ℕ, ◌+◌, Bool, cond, List, ◌++◌, length, take, drop, Ok, Err, Result, nat_le}
use Rattle.vocabulary.specs.declared.refusal.Refusal.{Refusal}
use Rattle.vocabulary.specs.declared.refusal.Refusal.TheVariants.{OutputFull}

-- bytes that end where the output ends fit
abbrev pub fits : ℕ → List ℕ → List ℕ → Bool
fits n bs out = nat_le (n + length bs) (length out)

-- what the output then holds: what comes before and after the bytes is as it was
abbrev pub put_at : ℕ → List ℕ → List ℕ → List ℕ
put_at n bs out = cond (fits n bs out) (take n out ++ (bs ++ drop (n + length bs) out)) out

-- how many bytes are then written
abbrev pub len_after : ℕ → List ℕ → List ℕ → ℕ
len_after n bs out = cond (fits n bs out) (n + length bs) n

abbrev pub answer_of : ℕ → List ℕ → List ℕ → Result (Unit {0}) Refusal
answer_of n bs out = cond (fits n bs out) (Ok tt) (Err OutputFull)

-- the answer where the bytes are put at the output's start: how many there are
abbrev pub count_of : List ℕ → List ℕ → Result ℕ Refusal
count_of bs out = cond (fits 0 bs out) (Ok (length bs)) (Err OutputFull)
