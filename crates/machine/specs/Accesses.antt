-- Which access a worker makes next, by its stage. Every stage but idle makes exactly one.
use Rattle.std.specs.Prelude.{ℕ, Bool, true, false, Some, None, Option}
use Rattle.machine.specs.declared.access.Access.{Access}
use Rattle.machine.specs.declared.entry.Descriptor.{Descriptor}
use Rattle.machine.specs.declared.entry.OrderKind.{OrderKind}
use Rattle.machine.specs.declared.stage.EmptyStage.{EmptyStage}
use Rattle.machine.specs.declared.stage.FinishDeqStage.{FinishDeqStage}
use Rattle.machine.specs.declared.stage.FinishEnqStage.{FinishEnqStage}
use Rattle.machine.specs.declared.stage.HelpDeqStage.{HelpDeqStage}
use Rattle.machine.specs.declared.stage.HelpEnqStage.{HelpEnqStage}
use Rattle.machine.specs.declared.stage.OrderStage.{OrderStage}
use Rattle.machine.specs.declared.stage.Stage.{Stage}
use Rattle.machine.specs.declared.stage.TakeStage.{TakeStage}
use Rattle.machine.specs.declared.worker.Worker.{Worker}

-- the node or worker in a register that is known to have one
abbrev pub named : Option ℕ → ℕ
named None = 0
named (Some x) = x

abbrev pub described : ℕ → Bool → OrderKind → Option ℕ → Descriptor
described phase pending kind node = record { phase = phase; pending = pending; kind = kind; node = node }

-- w is the worker's own number
abbrev pub order_access : ℕ → Worker → OrderStage → Access
order_access w v OrderStage.Scan = Access.ReadEntry v.index
order_access w v OrderStage.Announce = Access.WriteEntry w (described v.phase true v.kind v.own)
order_access w v OrderStage.Look = Access.ReadEntry v.index
order_access w v OrderStage.Recall = Access.ReadEntry w
order_access w v OrderStage.Follow = Access.ReadSuccessor (named v.node)

-- k is the poster of the node x
abbrev pub finish_enq_access : ℕ → Worker → FinishEnqStage → Access
finish_enq_access k v FinishEnqStage.E1 = Access.ReadTail
finish_enq_access k v FinishEnqStage.E2 = Access.ReadSuccessor v.tail
finish_enq_access k v FinishEnqStage.E3 = Access.ReadEntry k
finish_enq_access k v FinishEnqStage.E4 = Access.ReadTail
finish_enq_access k v FinishEnqStage.E5 = Access.ReadEntry k
finish_enq_access k v FinishEnqStage.E6 = Access.ReadEntry k
finish_enq_access k v FinishEnqStage.E7 = Access.ExchangeEntry k v.saved (described v.kept_phase false OrderKind.Post v.next)
finish_enq_access k v FinishEnqStage.E8 = Access.ExchangeTail v.tail (named v.next)

-- k is the taker that was read
abbrev pub finish_deq_access : ℕ → Worker → FinishDeqStage → Access
finish_deq_access k v FinishDeqStage.D1 = Access.ReadHead
finish_deq_access k v FinishDeqStage.D2 = Access.ReadSuccessor v.head
finish_deq_access k v FinishDeqStage.D3 = Access.ReadTaker v.head
finish_deq_access k v FinishDeqStage.D4 = Access.ReadEntry k
finish_deq_access k v FinishDeqStage.D5 = Access.ReadHead
finish_deq_access k v FinishDeqStage.D6 = Access.ReadEntry k
finish_deq_access k v FinishDeqStage.D7 = Access.ReadEntry k
finish_deq_access k v FinishDeqStage.D8 = Access.ExchangeEntry k v.saved (described v.kept_phase false OrderKind.Fetch v.node)
finish_deq_access k v FinishDeqStage.D9 = Access.ExchangeHead v.head (named v.next)

-- the worker of the loop's index is helped
abbrev pub help_enq_access : Worker → HelpEnqStage → Access
help_enq_access v HelpEnqStage.C1 = Access.ReadEntry v.index
help_enq_access v HelpEnqStage.C2 = Access.ReadEntry v.index
help_enq_access v HelpEnqStage.P1 = Access.ReadTail
help_enq_access v HelpEnqStage.P2 = Access.ReadSuccessor v.tail
help_enq_access v HelpEnqStage.P3 = Access.ReadTail
help_enq_access v HelpEnqStage.C1AfterP3 = Access.ReadEntry v.index
help_enq_access v HelpEnqStage.C2AfterP3 = Access.ReadEntry v.index
help_enq_access v HelpEnqStage.P4 = Access.ReadEntry v.index
help_enq_access v HelpEnqStage.P5 = Access.ExchangeSuccessor v.tail v.node

abbrev pub help_deq_access : Worker → HelpDeqStage → Access
help_deq_access v HelpDeqStage.C1 = Access.ReadEntry v.index
help_deq_access v HelpDeqStage.C2 = Access.ReadEntry v.index
help_deq_access v HelpDeqStage.T1 = Access.ReadHead
help_deq_access v HelpDeqStage.T2 = Access.ReadTail
help_deq_access v HelpDeqStage.T3 = Access.ReadSuccessor v.head
help_deq_access v HelpDeqStage.T4 = Access.ReadHead

abbrev pub empty_access : Worker → EmptyStage → Access
empty_access v EmptyStage.T5 = Access.ReadEntry v.index
empty_access v EmptyStage.T6 = Access.ReadTail
empty_access v EmptyStage.C1 = Access.ReadEntry v.index
empty_access v EmptyStage.C2 = Access.ReadEntry v.index
empty_access v EmptyStage.T7 = Access.ReadEntry v.index
empty_access v EmptyStage.T8 = Access.ExchangeEntry v.index v.saved (described v.kept_phase false OrderKind.Fetch None)

abbrev pub take_access : Worker → TakeStage → Access
take_access v TakeStage.T9 = Access.ReadEntry v.index
take_access v TakeStage.C1 = Access.ReadEntry v.index
take_access v TakeStage.C2 = Access.ReadEntry v.index
take_access v TakeStage.T10 = Access.ReadHead
take_access v TakeStage.T11 = Access.ReadEntry v.index
take_access v TakeStage.T12 = Access.ExchangeEntry v.index v.saved (described v.kept_phase true OrderKind.Fetch (Some v.head))
take_access v TakeStage.T13 = Access.ExchangeTaker v.head v.index

abbrev pub access_at : (ℕ → ℕ) → ℕ → Worker → Stage → Access
access_at poster w v Stage.Idle = Access.None
access_at poster w v (Stage.Order a) = order_access w v a
access_at poster w v (Stage.FinishEnq a r) = finish_enq_access (poster (named v.next)) v a
access_at poster w v (Stage.FinishDeq a r) = finish_deq_access (named v.taker) v a
access_at poster w v (Stage.HelpEnq a) = help_enq_access v a
access_at poster w v (Stage.HelpDeq a) = help_deq_access v a
access_at poster w v (Stage.Empty a) = empty_access v a
access_at poster w v (Stage.Take a) = take_access v a

-- the access that the worker w, whose posters are known, makes next
abbrev pub access_of : (ℕ → ℕ) → ℕ → Worker → Access
access_of poster w v = access_at poster w v v.stage
