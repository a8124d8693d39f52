-- What the bytes of the table stand for.
use Rattle.std.specs.Prelude.{ℕ, zero, suc, cond, List, [], ◌∷◌, ◌++◌, replicate, codes, ◌==◌}

abbrev pub byte_for : ℕ → ℕ
byte_for b = cond (b == 62) 9 (cond (b == 59) 10 (cond (b == 64) 0 (cond (b == 37) 13 (cond (b == 36) 255 (cond (b == 95) 32 b)))))

-- so many lines `fetch 0`
abbrev pub lines : ℕ → List ℕ
lines zero = []
lines (suc n) = codes "fetch" ++ (9 ∷ 48 ∷ 10 ∷ lines n)

abbrev pub bytes_for : ℕ → List ℕ
bytes_for b = cond (b == 35) (replicate 4096 120) (cond (b == 42) (lines 16) (cond (b == 126) [] (byte_for b ∷ [])))
