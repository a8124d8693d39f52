-- The code's queue as the memory that the definitions speak of.
use Rattle.std.specs.Prelude.{ℕ, ◌^◌, ◌<◌, None, slice_index_or}
use Rattle.machine.specs.declared.access.Access.{Access}
use Rattle.machine.specs.declared.node.Node.{Node}
use Rattle.machine.specs.declared.queue.Queue.{Queue}
use Rattle.machine.specs.Memory.{Memory}
use Rattle.machine.specs.States.{blank_entry}

abbrev pub blank_node : Node
blank_node = record { successor = None; poster = 0; taker = None }

abbrev pub memory_of : Queue → Memory
memory_of q = record { head = q.head; tail = q.tail; successor = λ j. (slice_index_or q.nodes j blank_node).successor; taker = λ j. (slice_index_or q.nodes j blank_node).taker; entry = λ k. slice_index_or q.entries k blank_entry; poster = λ j. (slice_index_or q.nodes j blank_node).poster }

-- an access that the queue's tables can take: the worker has an entry, and the entry's count has room for one more. Both
-- hold in every run: a worker's number is below 16, and an entry is written at most once in a counted step
abbrev pub EntryFits : Queue → ℕ → Type 0
EntryFits q k = (k < 16) × ((slice_index_or q.entries k blank_entry).count < 2 ^ 31)

abbrev pub Fitting : Queue → Access → Type 0
Fitting q Access.None = Unit {0}
Fitting q Access.ReadHead = Unit {0}
Fitting q Access.ReadTail = Unit {0}
Fitting q (Access.ReadSuccessor j) = Unit {0}
Fitting q (Access.ReadTaker j) = Unit {0}
Fitting q (Access.ReadEntry k) = k < 16
Fitting q (Access.WriteEntry k d) = EntryFits q k
Fitting q (Access.ExchangeEntry k count d) = EntryFits q k
Fitting q (Access.ExchangeHead from to) = Unit {0}
Fitting q (Access.ExchangeTail from to) = Unit {0}
Fitting q (Access.ExchangeSuccessor j to) = Unit {0}
Fitting q (Access.ExchangeTaker j k) = Unit {0}
