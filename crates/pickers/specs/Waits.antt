-- How long a worker waits while a row is read round and round.
use Rattle.std.specs.Prelude.{ℕ, ◌+◌, cond, List, [], ◌∷◌, ◌++◌, take, drop, ◌==◌}

-- the first place that has b, or the row's length
abbrev pub place_of : List ℕ → ℕ → ℕ
place_of [] b = 0
place_of (w ∷ ws) b = cond (w == b) 0 (place_of ws b + 1)

-- the row, read once round from the place k
abbrev pub rotated : ℕ → List ℕ → List ℕ
rotated k ws = drop k ws ++ take k ws

-- within how many asks b is named, if the place k is read first
abbrev pub wait_from : ℕ → List ℕ → ℕ → ℕ
wait_from k ws b = place_of (rotated k ws) b + 1
