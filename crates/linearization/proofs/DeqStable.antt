-- What is known of a worker in help_deq stays known over another's step; and so at every stage.
use Rattle.std.proofs.Common.{◌≡◌, ℕ, ◌<◌, ◌≤◌, true, ◌≢◌, Some, None, Option, sym, ap, ◌∙◌, subst, arith}
use Rattle.machine.specs.declared.entry.Entry.{Entry}
use Rattle.machine.specs.declared.entry.OrderKind.{OrderKind}
use Rattle.machine.specs.declared.stage.EmptyStage.{EmptyStage}
use Rattle.machine.specs.declared.stage.HelpDeqStage.{HelpDeqStage}
use Rattle.machine.specs.declared.stage.Stage.{Stage}
use Rattle.machine.specs.declared.stage.TakeStage.{TakeStage}
use Rattle.machine.specs.declared.worker.Worker.{Worker}
use Rattle.machine.specs.Memory.{Memory}
use Rattle.linearization.proofs.Ghosts.{Ghost, is_pending, node_of, phase_of, count_of}
use Rattle.linearization.proofs.MemoryInvariant.{ChainOf, EntriesOf}
use Rattle.linearization.proofs.OrderStable.{quiescent-stable, announced-stable, helping-deq-stable, saw-empty-stable}
use Rattle.linearization.proofs.Relies.{ChainRelyOf, EntryRely, OrderRely}
use Rattle.linearization.proofs.Stable.{was-tail-stable, no-taker-before, unwritten-stable, names-earlier-stable, read-T9-stable, same-order, helping-stable, same-fetch}
use Rattle.linearization.proofs.StageFacts.{Announced, Helping, WasHead, HelpingDeq, PendingUpTo, HelpDeqFacts, EmptyFacts, TakeFacts, StageFacts}
use Rattle.linearization.proofs.StageStable.{order-stable, finish-enq-stable, finish-deq-stable, help-enq-stable}

module _ {T : Type 0} (n u v : ℕ) (m : Memory) (g : Ghost T) (m' : Memory) (g' : Ghost T) (c : ChainOf m g) (d : EntriesOf m g) (p : ChainRelyOf m g m' g') (y : EntryRely n u v m g m' g') (z : OrderRely u v m g m' g') (w : ℕ) (o : w ≢ u) (o' : w ≢ v) (crew : w < n) where
  own : {e : OrderKind} {own : Option ℕ} {q i : ℕ} → Announced m g w e own q i → Announced m' g' w e own q i
  own f = announced-stable n u v m g m' g' c d p y z w o f

  help : {q k : ℕ} {e : OrderKind} → Helping m g w q k e → Helping m' g' w q k e
  help f = helping-stable n u v m g m' g' c d p y w crew o' f

  -- in help_deq for i, having read head as h
  in-deq : {e : OrderKind} {own : Option ℕ} {q i h : ℕ} → HelpingDeq m g w e own q i h → HelpingDeq m' g' w e own q i h
  in-deq f = helping-deq-stable n u v m g m' g' c d p y z w o o' crew f

  -- a position of a node that was head
  near : {h : ℕ} → WasHead m g h → g.position h < g.position m.tail → g'.position h < g'.position m'.tail
  near {h} f l = let a = p.stays h f.held in let b = p.tail_on in omega arith

  of_entry : (k b : ℕ) (P : Entry → Type 0) → b ≤ count_of m k → (count_of m k ≡ b → P (m.entry k)) → count_of m' k ≡ b → P (m'.entry k)
  of_entry k b P = unwritten-stable n u v m g m' g' c d p y k b P

  help-deq-stable : (a : Worker) (s : HelpDeqStage) → HelpDeqFacts m g w a s → HelpDeqFacts m' g' w a s
  help-deq-stable a HelpDeqStage.C1 f = (own f.0, help f.1)
  help-deq-stable a HelpDeqStage.C2 f = (own f.0, help f.1)
  help-deq-stable a HelpDeqStage.T1 f = (own f.0, help f.1)
  help-deq-stable a HelpDeqStage.T2 f = in-deq f
  help-deq-stable a HelpDeqStage.T3 f =
      let s = p.stays a.head f.0.was.held in
      let t = p.stays a.tail f.1.held in
      (in-deq f.0, was-tail-stable n u v m g m' g' c d p y f.1, omega (arith, f.2))
  help-deq-stable a HelpDeqStage.T4 f =
      let s = p.stays a.head f.0.was.held in
      let t = p.stays a.tail f.1.held in
      (in-deq f.0, was-tail-stable n u v m g m' g' c d p y f.1, omega (arith, f.2), λ e. saw-empty-stable n u v m g m' g' c d p y z w o' crew f.0.help (f.3 e))

  empty-stable : (a : Worker) (s : EmptyStage) → EmptyFacts m g w a s → EmptyFacts m' g' w a s
  empty-stable a EmptyStage.T5 f = (in-deq f.0, saw-empty-stable n u v m g m' g' c d p y z w o' crew f.0.help f.1, f.2)
  empty-stable a EmptyStage.T6 f = (in-deq f.0, saw-empty-stable n u v m g m' g' c d p y z w o' crew f.0.help f.1, f.2, grind (arith, y.counts a.index, f.3))
  empty-stable a EmptyStage.C1 f = (in-deq f.0, saw-empty-stable n u v m g m' g' c d p y z w o' crew f.0.help f.1, names-earlier-stable n u v m g m' g' c d p y f.0.was f.2)
  empty-stable a EmptyStage.C2 f = (
    in-deq f.0,
    saw-empty-stable n u v m g m' g' c d p y z w o' crew f.0.help f.1,
    names-earlier-stable n u v m g m' g' c d p y f.0.was f.2,
    of_entry a.index a.saved (λ e. e.descriptor.pending ≡ true) f.2.since f.3,
  )
  empty-stable a EmptyStage.T7 f = (
    in-deq f.0,
    saw-empty-stable n u v m g m' g' c d p y z w o' crew f.0.help f.1,
    names-earlier-stable n u v m g m' g' c d p y f.0.was f.2,
    of_entry a.index a.saved (PendingUpTo a.phase) f.2.since f.3,
  )
  empty-stable a EmptyStage.T8 f = (
    in-deq f.0,
    saw-empty-stable n u v m g m' g' c d p y z w o' crew f.0.help f.1,
    names-earlier-stable n u v m g m' g' c d p y f.0.was f.2,
    of_entry a.index a.saved (λ e. PendingUpTo a.phase e × (e.descriptor.phase ≡ a.kept_phase)) f.2.since f.3,
  )

  -- the entry of the helped fetch, which names h, while h has no taker
  same : (q k h : ℕ) → Helping m g w q k OrderKind.Fetch → WasHead m g h → m'.taker h ≡ None → phase_of m k ≤ q → is_pending m k ≡ true → node_of m k ≡ Some h → m'.entry k ≡ m.entry k
  same q k h = same-fetch n u v m g m' g' c d p y w crew q k h

  untaken : (h : ℕ) → m'.taker h ≡ None → m.taker h ≡ None
  untaken h = no-taker-before n u v m g m' g' c d p y h

  take-stable : (a : Worker) (s : TakeStage) → TakeFacts m g w a s → TakeFacts m' g' w a s
  take-stable a TakeStage.T9 f = (in-deq f.0, near f.0.was f.1)
  take-stable a TakeStage.C1 f = (
    in-deq f.0,
    read-T9-stable n u v m g m' g' c d p y f.0.was f.1,
    λ e t q r.
        let s = same-order n u v m g m' g' c d p y w crew a.phase a.index f.0.help.asked q in
        let b = f.2 e (untaken a.head t) s.0 (s.1 r) in
        ap (λ (k : Entry). k.descriptor.node) (same a.phase a.index a.head f.0.help f.0.was t s.0 (s.1 r) b) ∙ b,
  )
  take-stable a TakeStage.C2 f = (
    in-deq f.0,
    read-T9-stable n u v m g m' g' c d p y f.0.was f.1,
    of_entry a.index a.saved (λ e. e.descriptor.pending ≡ true) f.1.since f.2,
    λ e t q.
        let s = same-order n u v m g m' g' c d p y w crew a.phase a.index f.0.help.asked q in
        let b = f.3 e (untaken a.head t) s.0 in
        subst (λ (k : Entry). (k.descriptor.pending ≡ true) × (k.descriptor.node ≡ Some a.head)) (sym (same a.phase a.index a.head f.0.help f.0.was t s.0 b.0 b.1)) b,
  )
  take-stable a TakeStage.T10 f = (
    in-deq f.0,
    read-T9-stable n u v m g m' g' c d p y f.0.was f.1,
    of_entry a.index a.saved (PendingUpTo a.phase) f.1.since f.2,
    λ e t.
        let b = f.3 e (untaken a.head t) in
        subst (λ (k : Entry). PendingUpTo a.phase k × (k.descriptor.node ≡ Some a.head)) (sym (same a.phase a.index a.head f.0.help f.0.was t b.0.1 b.0.0 b.1)) b,
  )
  take-stable a TakeStage.T11 f = (
    in-deq f.0,
    near f.0.was f.1,
    names-earlier-stable n u v m g m' g' c d p y f.0.was f.2,
    of_entry a.index a.saved (PendingUpTo a.phase) f.2.since f.3,
  )
  take-stable a TakeStage.T12 f = (
    in-deq f.0,
    near f.0.was f.1,
    names-earlier-stable n u v m g m' g' c d p y f.0.was f.2,
    of_entry a.index a.saved (λ e. PendingUpTo a.phase e × (e.descriptor.phase ≡ a.kept_phase)) f.2.since f.3,
  )
  take-stable a TakeStage.T13 f = (
    in-deq f.0,
    λ t.
        let b = f.1 (untaken a.head t) in
        subst (λ (k : Entry). PendingUpTo a.phase k × (k.descriptor.node ≡ Some a.head)) (sym (same a.phase a.index a.head f.0.help f.0.was t b.0.1 b.0.0 b.1)) b,
  )

  pub stage-stable : (a : Worker) (s : Stage) → StageFacts m g n w a s → StageFacts m' g' n w a s
  stage-stable a Stage.Idle f = quiescent-stable n u v m g m' g' c d p y z w o f
  stage-stable a (Stage.Order s) f = order-stable n u v m g m' g' c d p y z w o o' crew a s f
  stage-stable a (Stage.FinishEnq s r) f = finish-enq-stable n u v m g m' g' c d p y z w o o' crew a r s f
  stage-stable a (Stage.FinishDeq s r) f = finish-deq-stable n u v m g m' g' c d p y z w o o' crew a r s f
  stage-stable a (Stage.HelpEnq s) f = help-enq-stable n u v m g m' g' c d p y z w o o' crew a s f
  stage-stable a (Stage.HelpDeq s) f = help-deq-stable a s f
  stage-stable a (Stage.Empty s) f = empty-stable a s f
  stage-stable a (Stage.Take s) f = take-stable a s f
