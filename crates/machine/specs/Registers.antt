-- A worker's registers after a read, and the stage that it goes on to.
use Rattle.std.specs.Prelude.{ℕ, Option}
use Rattle.machine.specs.declared.stage.Stage.{Stage}
use Rattle.machine.specs.declared.worker.Worker.{Worker}

abbrev pub goto : Worker → Stage → Worker
goto v a = record v { stage = a }

-- the phase p, and the worker i that comes next
abbrev pub with_phase : Worker → ℕ → ℕ → Stage → Worker
with_phase v p i a = record v { phase = p; index = i; stage = a }

abbrev pub with_index : Worker → ℕ → Stage → Worker
with_index v i a = record v { index = i; stage = a }

-- the tail l, the head h, the successor x, the node m, the taker k, the phase f, the count of writings
abbrev pub with_tail : Worker → ℕ → Stage → Worker
with_tail v l a = record v { tail = l; stage = a }

abbrev pub with_head : Worker → ℕ → Stage → Worker
with_head v h a = record v { head = h; stage = a }

abbrev pub with_next : Worker → Option ℕ → Stage → Worker
with_next v x a = record v { next = x; stage = a }

abbrev pub with_node : Worker → Option ℕ → Stage → Worker
with_node v m a = record v { node = m; stage = a }

abbrev pub with_taker : Worker → Option ℕ → Stage → Worker
with_taker v k a = record v { taker = k; stage = a }

abbrev pub with_kept : Worker → ℕ → Stage → Worker
with_kept v f a = record v { kept_phase = f; stage = a }

abbrev pub with_saved : Worker → ℕ → Stage → Worker
with_saved v c a = record v { saved = c; stage = a }

-- the successor that T3 reads, and the number of that step
abbrev pub with_t3 : Worker → Option ℕ → ℕ → Stage → Worker
with_t3 v x t a = record v { next = x; t3 = t; stage = a }

-- the count and the node of the entry that T9 reads
abbrev pub with_claim : Worker → ℕ → Option ℕ → Stage → Worker
with_claim v c m a = record v { node = m; saved = c; stage = a }
