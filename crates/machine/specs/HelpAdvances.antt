-- How a worker advances in help_enq and help_deq, and in all.
use Rattle.std.specs.Prelude.{ℕ, Bool, true, false, cond, not, ◌&&◌, Some, None, Option, ◌==◌}
use Rattle.vocabulary.specs.declared.kind.Kind.{Kind}
use Rattle.machine.specs.declared.access.Outcome.{Outcome}
use Rattle.machine.specs.declared.access.Seen.{Seen}
use Rattle.machine.specs.declared.stage.EmptyStage.{EmptyStage}
use Rattle.machine.specs.declared.stage.FinishDeqStage.{FinishDeqStage}
use Rattle.machine.specs.declared.stage.FinishEnqStage.{FinishEnqStage}
use Rattle.machine.specs.declared.stage.HelpDeqStage.{HelpDeqStage}
use Rattle.machine.specs.declared.stage.HelpEnqStage.{HelpEnqStage}
use Rattle.machine.specs.declared.stage.Return.{Return}
use Rattle.machine.specs.declared.stage.Stage.{Stage}
use Rattle.machine.specs.declared.stage.TakeStage.{TakeStage}
use Rattle.machine.specs.declared.worker.Worker.{Worker}
use Rattle.machine.specs.Advances.{Advanced, worked, on_place, on_link, on_entry, on_held, is_node, pending_of, not_above, next_worker, to_help_enq, to_help_deq, order_advance, finish_enq_advance, finish_deq_advance}
use Rattle.machine.specs.Registers.{goto, with_tail, with_head, with_next, with_node, with_kept, with_saved, with_t3, with_claim}

-- the order of the worker of the loop's index has its point
abbrev pub pointed : Worker → Worker → ℕ → Kind → Advanced
pointed v next number kind = record { worker = next; outcome = Outcome.Point number v.index kind }

abbrev pub in_enq : Worker → HelpEnqStage → Worker
in_enq v a = goto v (Stage.HelpEnq a)

abbrev pub in_deq : Worker → HelpDeqStage → Worker
in_deq v a = goto v (Stage.HelpDeq a)

-- to help_finish_enq
abbrev pub to_finish_enq : Worker → Return → Worker
to_finish_enq v r = goto v (Stage.FinishEnq FinishEnqStage.E1 r)

abbrev pub after_p3 : Worker → Option ℕ → Worker
after_p3 v None = in_enq v HelpEnqStage.C1AfterP3
after_p3 v (Some x) = to_finish_enq v Return.HelpEnq

-- t is the number of the step
abbrev pub help_enq_advance : ℕ → ℕ → Worker → Seen → HelpEnqStage → Advanced
help_enq_advance n t v s HelpEnqStage.C1 = on_entry v s (λ e. worked (cond (pending_of e) (in_enq v HelpEnqStage.C2) (next_worker n v)))
help_enq_advance n t v s HelpEnqStage.C2 = on_entry v s (λ e. worked (cond (not_above e v) (in_enq v HelpEnqStage.P1) (next_worker n v)))
help_enq_advance n t v s HelpEnqStage.P1 = on_place v s (λ l. worked (with_tail v l (Stage.HelpEnq HelpEnqStage.P2)))
help_enq_advance n t v s HelpEnqStage.P2 = on_link v s (λ x. worked (with_next v x (Stage.HelpEnq HelpEnqStage.P3)))
help_enq_advance n t v s HelpEnqStage.P3 = on_place v s (λ l. worked (cond (l == v.tail) (after_p3 v v.next) (to_help_enq v)))
help_enq_advance n t v s HelpEnqStage.C1AfterP3 = on_entry v s (λ e. worked (cond (pending_of e) (in_enq v HelpEnqStage.C2AfterP3) (to_help_enq v)))
help_enq_advance n t v s HelpEnqStage.C2AfterP3 = on_entry v s (λ e. worked (cond (not_above e v) (in_enq v HelpEnqStage.P4) (to_help_enq v)))
help_enq_advance n t v s HelpEnqStage.P4 = on_entry v s (λ e. worked (with_node v e.descriptor.node (Stage.HelpEnq HelpEnqStage.P5)))
help_enq_advance n t v s HelpEnqStage.P5 = on_held v s (λ b. cond b (pointed v (to_finish_enq v Return.NextWorker) t Kind.Post) (worked (to_help_enq v)))

abbrev pub in_empty : Worker → EmptyStage → Worker
in_empty v a = goto v (Stage.Empty a)

abbrev pub in_take : Worker → TakeStage → Worker
in_take v a = goto v (Stage.Take a)

-- head and tail were the same node, or not; and its successor
abbrev pub after_t4 : Worker → Bool → Option ℕ → Worker
after_t4 v false x = in_take v TakeStage.T9
after_t4 v true None = in_empty v EmptyStage.T5
after_t4 v true (Some x) = to_finish_enq v Return.HelpDeq

abbrev pub help_deq_advance : ℕ → ℕ → Worker → Seen → HelpDeqStage → Advanced
help_deq_advance n t v s HelpDeqStage.C1 = on_entry v s (λ e. worked (cond (pending_of e) (in_deq v HelpDeqStage.C2) (next_worker n v)))
help_deq_advance n t v s HelpDeqStage.C2 = on_entry v s (λ e. worked (cond (not_above e v) (in_deq v HelpDeqStage.T1) (next_worker n v)))
help_deq_advance n t v s HelpDeqStage.T1 = on_place v s (λ h. worked (with_head v h (Stage.HelpDeq HelpDeqStage.T2)))
help_deq_advance n t v s HelpDeqStage.T2 = on_place v s (λ l. worked (with_tail v l (Stage.HelpDeq HelpDeqStage.T3)))
help_deq_advance n t v s HelpDeqStage.T3 = on_link v s (λ x. worked (with_t3 v x t (Stage.HelpDeq HelpDeqStage.T4)))
help_deq_advance n t v s HelpDeqStage.T4 = on_place v s (λ h. worked (cond (h == v.head) (after_t4 v (v.head == v.tail) v.next) (to_help_deq v)))

-- the queue was seen empty: the entry says so, and the point is the number of the latest T3, not of this step
abbrev pub empty_advance : Worker → Seen → EmptyStage → Advanced
empty_advance v s EmptyStage.T5 = on_entry v s (λ e. worked (with_saved v e.count (Stage.Empty EmptyStage.T6)))
empty_advance v s EmptyStage.T6 = on_place v s (λ l. worked (cond (l == v.tail) (in_empty v EmptyStage.C1) (to_help_deq v)))
empty_advance v s EmptyStage.C1 = on_entry v s (λ e. worked (cond (pending_of e) (in_empty v EmptyStage.C2) (to_help_deq v)))
empty_advance v s EmptyStage.C2 = on_entry v s (λ e. worked (cond (not_above e v) (in_empty v EmptyStage.T7) (to_help_deq v)))
empty_advance v s EmptyStage.T7 = on_entry v s (λ e. worked (with_kept v e.descriptor.phase (Stage.Empty EmptyStage.T8)))
empty_advance v s EmptyStage.T8 = on_held v s (λ b. cond b (pointed v (to_help_deq v) v.t3 Kind.None) (worked (to_help_deq v)))

-- to help_finish_deq
abbrev pub to_finish_deq : Worker → Worker
to_finish_deq v = goto v (Stage.FinishDeq FinishDeqStage.D1 Return.HelpDeq)

-- there is an element to take: the entry names head's node, and head's node gets its taker
abbrev pub take_advance : ℕ → ℕ → Worker → Seen → TakeStage → Advanced
take_advance n t v s TakeStage.T9 = on_entry v s (λ e. worked (with_claim v e.count e.descriptor.node (Stage.Take TakeStage.C1)))
take_advance n t v s TakeStage.C1 = on_entry v s (λ e. worked (cond (pending_of e) (in_take v TakeStage.C2) (next_worker n v)))
take_advance n t v s TakeStage.C2 = on_entry v s (λ e. worked (cond (not_above e v) (in_take v TakeStage.T10) (next_worker n v)))
take_advance n t v s TakeStage.T10 = on_place v s (λ h. worked (cond (h == v.head && not (is_node v.node v.head)) (in_take v TakeStage.T11) (in_take v TakeStage.T13)))
take_advance n t v s TakeStage.T11 = on_entry v s (λ e. worked (with_kept v e.descriptor.phase (Stage.Take TakeStage.T12)))
take_advance n t v s TakeStage.T12 = on_held v s (λ b. worked (cond b (in_take v TakeStage.T13) (to_help_deq v)))
take_advance n t v s TakeStage.T13 = on_held v s (λ b. cond b (pointed v (to_finish_deq v) t Kind.Fetch) (worked (to_finish_deq v)))

abbrev pub advance_at : ℕ → ℕ → Worker → Seen → Stage → Advanced
advance_at n t v s Stage.Idle = record { worker = v; outcome = Outcome.Idle }
advance_at n t v s (Stage.Order a) = order_advance n v s a
advance_at n t v s (Stage.FinishEnq a r) = finish_enq_advance n v s r a
advance_at n t v s (Stage.FinishDeq a r) = finish_deq_advance n v s r a
advance_at n t v s (Stage.HelpEnq a) = help_enq_advance n t v s a
advance_at n t v s (Stage.HelpDeq a) = help_deq_advance n t v s a
advance_at n t v s (Stage.Empty a) = empty_advance v s a
advance_at n t v s (Stage.Take a) = take_advance n t v s a

-- the worker v of a crew of n after its access saw s, in the step numbered t
abbrev pub advance_of : ℕ → ℕ → Worker → Seen → Advanced
advance_of n t v s = advance_at n t v s v.stage
