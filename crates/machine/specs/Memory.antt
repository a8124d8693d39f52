-- What the workers share, and what one access sees and leaves of it. Nodes and workers are named by any numbers.
use Rattle.std.specs.Prelude.{ℕ, zero, suc, ◌+◌, Bool, cond, ℤ, pos, negsuc, is_none, Some, Option, ◌==◌}
use Rattle.machine.specs.declared.access.Access.{Access}
use Rattle.machine.specs.declared.access.Seen.{Seen}
use Rattle.machine.specs.declared.entry.Descriptor.{Descriptor}
use Rattle.machine.specs.declared.entry.Entry.{Entry}
use Rattle.promise.specs.Maps.{put}

pub record Memory : Type 0 where
  pub head : ℕ
  pub tail : ℕ
  pub successor : ℕ → Option ℕ
  pub taker : ℕ → Option ℕ
  pub entry : ℕ → Entry
  -- a node's poster never changes once the node is taken, and costs no access
  pub poster : ℕ → ℕ

-- the stated phase of a stored one, which is one above it: the first is -1
abbrev pub stated_phase : ℕ → ℤ
stated_phase zero = negsuc 0
stated_phase (suc p) = pos p

-- whether an exchange holds
abbrev pub entry_holds : Memory → ℕ → ℕ → Bool
entry_holds m k count = (m.entry k).count == count

-- what an access sees
abbrev pub seen_by : Memory → Access → Seen
seen_by m Access.None = Seen.Nothing
seen_by m Access.ReadHead = Seen.Place m.head
seen_by m Access.ReadTail = Seen.Place m.tail
seen_by m (Access.ReadSuccessor j) = Seen.Link (m.successor j)
seen_by m (Access.ReadTaker j) = Seen.Link (m.taker j)
seen_by m (Access.ReadEntry k) = Seen.Entry (m.entry k)
seen_by m (Access.WriteEntry k d) = Seen.Nothing
seen_by m (Access.ExchangeEntry k count d) = Seen.Held (entry_holds m k count)
seen_by m (Access.ExchangeHead from to) = Seen.Held (m.head == from)
seen_by m (Access.ExchangeTail from to) = Seen.Held (m.tail == from)
seen_by m (Access.ExchangeSuccessor j to) = Seen.Held (is_none (m.successor j))
seen_by m (Access.ExchangeTaker j k) = Seen.Held (is_none (m.taker j))

-- the memory with one thing written
abbrev pub with_head : Memory → ℕ → Memory
with_head m x = record m { head = x }

abbrev pub with_tail : Memory → ℕ → Memory
with_tail m x = record m { tail = x }

abbrev pub with_successor : Memory → ℕ → Option ℕ → Memory
with_successor m j to = record m { successor = put m.successor j to }

abbrev pub with_taker : Memory → ℕ → ℕ → Memory
with_taker m j k = record m { taker = put m.taker j (Some k) }

-- a writing of an entry counts, whatever it writes
abbrev pub with_entry : Memory → ℕ → Descriptor → Memory
with_entry m k d = record m { entry = put m.entry k (record { descriptor = d; count = (m.entry k).count + 1 }) }

-- what an access leaves: reads change nothing, and an exchange that does not hold neither
abbrev pub left_by : Memory → Access → Memory
left_by m Access.None = m
left_by m Access.ReadHead = m
left_by m Access.ReadTail = m
left_by m (Access.ReadSuccessor j) = m
left_by m (Access.ReadTaker j) = m
left_by m (Access.ReadEntry k) = m
left_by m (Access.WriteEntry k d) = with_entry m k d
left_by m (Access.ExchangeEntry k count d) = cond (entry_holds m k count) (with_entry m k d) m
left_by m (Access.ExchangeHead from to) = cond (m.head == from) (with_head m to) m
left_by m (Access.ExchangeTail from to) = cond (m.tail == from) (with_tail m to) m
left_by m (Access.ExchangeSuccessor j to) = cond (is_none (m.successor j)) (with_successor m j to) m
left_by m (Access.ExchangeTaker j k) = cond (is_none (m.taker j)) (with_taker m j k) m
