-- How a worker advances: its stage and what its access saw give its next stage, its registers, and what the step tells.
use Rattle.std.specs.Prelude.{ℕ, ◌+◌, max, Bool, false, cond, ◌&&◌, Some, None, Option, ◌==◌, nat_le, nat_lt}
use Rattle.machine.specs.declared.access.Outcome.{Outcome}
use Rattle.machine.specs.declared.access.Seen.{Seen}
use Rattle.machine.specs.declared.entry.Entry.{Entry}
use Rattle.machine.specs.declared.entry.OrderKind.{OrderKind}
use Rattle.machine.specs.declared.stage.FinishDeqStage.{FinishDeqStage}
use Rattle.machine.specs.declared.stage.FinishEnqStage.{FinishEnqStage}
use Rattle.machine.specs.declared.stage.HelpDeqStage.{HelpDeqStage}
use Rattle.machine.specs.declared.stage.HelpEnqStage.{HelpEnqStage}
use Rattle.machine.specs.declared.stage.OrderStage.{OrderStage}
use Rattle.machine.specs.declared.stage.Return.{Return}
use Rattle.machine.specs.declared.stage.Stage.{Stage}
use Rattle.machine.specs.declared.worker.Worker.{Worker}
use Rattle.machine.specs.Registers.{goto, with_phase, with_index, with_tail, with_head, with_next, with_node, with_taker, with_kept, with_saved}

pub record Advanced : Type 0 where
  pub worker : Worker
  pub outcome : Outcome

abbrev pub worked : Worker → Advanced
worked v = record { worker = v; outcome = Outcome.Worked }

-- an access sees just one kind of thing; where another is handed in, the worker stays
abbrev pub on_place : Worker → Seen → (ℕ → Advanced) → Advanced
on_place v Seen.Nothing f = worked v
on_place v (Seen.Place j) f = f j
on_place v (Seen.Link x) f = worked v
on_place v (Seen.Entry e) f = worked v
on_place v (Seen.Held b) f = worked v

abbrev pub on_link : Worker → Seen → (Option ℕ → Advanced) → Advanced
on_link v Seen.Nothing f = worked v
on_link v (Seen.Place j) f = worked v
on_link v (Seen.Link x) f = f x
on_link v (Seen.Entry e) f = worked v
on_link v (Seen.Held b) f = worked v

abbrev pub on_entry : Worker → Seen → (Entry → Advanced) → Advanced
on_entry v Seen.Nothing f = worked v
on_entry v (Seen.Place j) f = worked v
on_entry v (Seen.Link x) f = worked v
on_entry v (Seen.Entry e) f = f e
on_entry v (Seen.Held b) f = worked v

abbrev pub on_held : Worker → Seen → (Bool → Advanced) → Advanced
on_held v Seen.Nothing f = worked v
on_held v (Seen.Place j) f = worked v
on_held v (Seen.Link x) f = worked v
on_held v (Seen.Entry e) f = worked v
on_held v (Seen.Held b) f = f b

-- whether an optional node is this one
abbrev pub is_node : Option ℕ → ℕ → Bool
is_node None x = false
is_node (Some m) x = m == x

abbrev pub same_node : Option ℕ → Option ℕ → Bool
same_node m None = false
same_node m (Some x) = is_node m x

abbrev pub pending_of : Entry → Bool
pending_of e = e.descriptor.pending

-- whether the entry's phase is not above the worker's own
abbrev pub not_above : Entry → Worker → Bool
not_above e v = nat_le e.descriptor.phase v.phase

-- an order's end, after the loop: a post does help_finish_enq, a fetch help_finish_deq
abbrev pub last_of : OrderKind → Stage
last_of OrderKind.Post = Stage.FinishEnq FinishEnqStage.E1 Return.End
last_of OrderKind.Fetch = Stage.FinishDeq FinishDeqStage.D1 Return.End

-- on to the next worker of the loop, or out of it; n is the crew
abbrev pub next_worker : ℕ → Worker → Worker
next_worker n v = cond (nat_lt (v.index + 1) n) (with_index v (v.index + 1) (Stage.Order OrderStage.Look)) (goto v (last_of v.kind))

abbrev pub to_help_enq : Worker → Worker
to_help_enq v = goto v (Stage.HelpEnq HelpEnqStage.C1)

abbrev pub to_help_deq : Worker → Worker
to_help_deq v = goto v (Stage.HelpDeq HelpDeqStage.C1)

abbrev pub answered : Worker → Option ℕ → Advanced
answered v node = record { worker = goto v Stage.Idle; outcome = Outcome.Answered node }

-- the end of help_finish_enq: a post's own last one answers it
abbrev pub finished_enq : ℕ → Worker → Return → Advanced
finished_enq n v Return.HelpEnq = worked (to_help_enq v)
finished_enq n v Return.HelpDeq = worked (to_help_deq v)
finished_enq n v Return.NextWorker = worked (next_worker n v)
finished_enq n v Return.End = answered v None

-- the end of help_finish_deq: after a fetch's own last one it reads its entry
abbrev pub finished_deq : ℕ → Worker → Return → Advanced
finished_deq n v Return.HelpEnq = worked (to_help_enq v)
finished_deq n v Return.HelpDeq = worked (to_help_deq v)
finished_deq n v Return.NextWorker = worked (next_worker n v)
finished_deq n v Return.End = worked (goto v (Stage.Order OrderStage.Recall))

abbrev pub after_recall : Worker → Option ℕ → Advanced
after_recall v None = answered v None
after_recall v (Some m) = worked (with_node v (Some m) (Stage.Order OrderStage.Follow))

abbrev pub help_of : OrderKind → Worker → Worker
help_of OrderKind.Post v = to_help_enq v
help_of OrderKind.Fetch v = to_help_deq v

-- the next entry's phase was read; after the last, the worker's p is the largest phase plus 1 (stored phases are one above
-- the stated ones, and so is p)
abbrev pub scanned : ℕ → Worker → ℕ → Worker
scanned n v phase = cond (nat_lt (v.index + 1) n)
    (with_phase v (max v.phase phase) (v.index + 1) (Stage.Order OrderStage.Scan))
    (with_phase v (max v.phase phase + 1) 0 (Stage.Order OrderStage.Announce))

-- the phase of an entry that was seen
abbrev pub phase_seen : Seen → ℕ
phase_seen Seen.Nothing = 0
phase_seen (Seen.Place j) = 0
phase_seen (Seen.Link x) = 0
phase_seen (Seen.Entry e) = e.descriptor.phase
phase_seen (Seen.Held b) = 0

abbrev pub order_advance : ℕ → Worker → Seen → OrderStage → Advanced
order_advance n v s OrderStage.Scan = on_entry v s (λ e. worked (scanned n v e.descriptor.phase))
order_advance n v s OrderStage.Announce = worked (goto v (Stage.Order OrderStage.Look))
order_advance n v s OrderStage.Look = on_entry v s (λ e. worked (cond (pending_of e && not_above e v) (help_of e.descriptor.kind v) (next_worker n v)))
order_advance n v s OrderStage.Recall = on_entry v s (λ e. after_recall v e.descriptor.node)
order_advance n v s OrderStage.Follow = on_link v s (λ x. answered v x)

abbrev pub enq : FinishEnqStage → Return → Stage
enq a r = Stage.FinishEnq a r

abbrev pub after_e2 : ℕ → Worker → Return → Option ℕ → Advanced
after_e2 n v r None = finished_enq n (with_next v None v.stage) r
after_e2 n v r (Some x) = worked (with_next v (Some x) (enq FinishEnqStage.E3 r))

abbrev pub finish_enq_advance : ℕ → Worker → Seen → Return → FinishEnqStage → Advanced
finish_enq_advance n v s r FinishEnqStage.E1 = on_place v s (λ l. worked (with_tail v l (enq FinishEnqStage.E2 r)))
finish_enq_advance n v s r FinishEnqStage.E2 = on_link v s (after_e2 n v r)
finish_enq_advance n v s r FinishEnqStage.E3 = on_entry v s (λ e. worked (with_saved v e.count (enq FinishEnqStage.E4 r)))
finish_enq_advance n v s r FinishEnqStage.E4 = on_place v s (λ l. cond (l == v.tail) (worked (goto v (enq FinishEnqStage.E5 r))) (finished_enq n v r))
finish_enq_advance n v s r FinishEnqStage.E5 = on_entry v s (λ e. cond (same_node e.descriptor.node v.next) (worked (goto v (enq FinishEnqStage.E6 r))) (finished_enq n v r))
finish_enq_advance n v s r FinishEnqStage.E6 = on_entry v s (λ e. worked (with_kept v e.descriptor.phase (enq FinishEnqStage.E7 r)))
finish_enq_advance n v s r FinishEnqStage.E7 = on_held v s (λ b. worked (goto v (enq FinishEnqStage.E8 r)))
finish_enq_advance n v s r FinishEnqStage.E8 = on_held v s (λ b. finished_enq n v r)

abbrev pub deq : FinishDeqStage → Return → Stage
deq a r = Stage.FinishDeq a r

abbrev pub after_d3 : ℕ → Worker → Return → Option ℕ → Advanced
after_d3 n v r None = finished_deq n (with_taker v None v.stage) r
after_d3 n v r (Some k) = worked (with_taker v (Some k) (deq FinishDeqStage.D4 r))

abbrev pub after_d5 : ℕ → Worker → Return → Bool → Option ℕ → Advanced
after_d5 n v r same None = finished_deq n v r
after_d5 n v r same (Some x) = cond same (worked (goto v (deq FinishDeqStage.D6 r))) (finished_deq n v r)

abbrev pub finish_deq_advance : ℕ → Worker → Seen → Return → FinishDeqStage → Advanced
finish_deq_advance n v s r FinishDeqStage.D1 = on_place v s (λ h. worked (with_head v h (deq FinishDeqStage.D2 r)))
finish_deq_advance n v s r FinishDeqStage.D2 = on_link v s (λ x. worked (with_next v x (deq FinishDeqStage.D3 r)))
finish_deq_advance n v s r FinishDeqStage.D3 = on_link v s (after_d3 n v r)
finish_deq_advance n v s r FinishDeqStage.D4 = on_entry v s (λ e. worked (with_saved v e.count (deq FinishDeqStage.D5 r)))
finish_deq_advance n v s r FinishDeqStage.D5 = on_place v s (λ h. after_d5 n v r (h == v.head) v.next)
finish_deq_advance n v s r FinishDeqStage.D6 = on_entry v s (λ e. worked (with_kept v e.descriptor.phase (deq FinishDeqStage.D7 r)))
finish_deq_advance n v s r FinishDeqStage.D7 = on_entry v s (λ e. worked (with_node v e.descriptor.node (deq FinishDeqStage.D8 r)))
finish_deq_advance n v s r FinishDeqStage.D8 = on_held v s (λ b. worked (goto v (deq FinishDeqStage.D9 r)))
finish_deq_advance n v s r FinishDeqStage.D9 = on_held v s (λ b. finished_deq n v r)
