-- What is known of a worker at its stage stays known over another's step: one line for each stage.
use Rattle.std.proofs.Common.{◌≡◌, ℕ, ◌+◌, ◌<◌, ◌≤◌, false, ◌≢◌, ◌⊎◌, Some, Option, sym, ap, ◌∙◌, subst, inl, inr, arith}
use Rattle.machine.specs.declared.entry.Entry.{Entry}
use Rattle.machine.specs.declared.entry.OrderKind.{OrderKind}
use Rattle.machine.specs.declared.stage.FinishDeqStage.{FinishDeqStage}
use Rattle.machine.specs.declared.stage.FinishEnqStage.{FinishEnqStage}
use Rattle.machine.specs.declared.stage.HelpEnqStage.{HelpEnqStage}
use Rattle.machine.specs.declared.stage.OrderStage.{OrderStage}
use Rattle.machine.specs.declared.stage.Return.{Return}
use Rattle.machine.specs.declared.worker.Worker.{Worker}
use Rattle.machine.specs.Accesses.{named}
use Rattle.machine.specs.Memory.{Memory}
use Rattle.linearization.proofs.Ghosts.{Ghost, is_pending, count_of}
use Rattle.linearization.proofs.MemoryInvariant.{ChainOf, EntriesOf}
use Rattle.linearization.proofs.OrderStable.{unannounced-stable, announced-stable, finishing-enq-stable, finishing-deq-stable, read-D2-stable, helping-enq-stable}
use Rattle.linearization.proofs.Relies.{ChainRelyOf, EntryRely, OrderRely}
use Rattle.linearization.proofs.Stable.{successor-stable, no-successor-before, passed-stable, poster-stable, read-E3-stable, read-D4-stable, taker-settled-stable, unwritten-stable, unwritten-poster, head-waits-stable, same-order, helping-stable, helping-in-stable, same_post, scanning-stable, chosen-stable}
use Rattle.linearization.proofs.StageFacts.{Announced, Helping, PostOf, FetchOf, PendingUpTo, OrderFacts, FinishEnqFacts, FinishDeqFacts, HelpEnqFacts}

module _ {T : Type 0} (n u v : ℕ) (m : Memory) (g : Ghost T) (m' : Memory) (g' : Ghost T) (c : ChainOf m g) (d : EntriesOf m g) (p : ChainRelyOf m g m' g') (y : EntryRely n u v m g m' g') (z : OrderRely u v m g m' g') (w : ℕ) (o : w ≢ u) (o' : w ≢ v) (crew : w < n) where
  own : {e : OrderKind} {own : Option ℕ} {q i : ℕ} → Announced m g w e own q i → Announced m' g' w e own q i
  own f = announced-stable n u v m g m' g' c d p y z w o f

  help : {q k : ℕ} {e : OrderKind} → Helping m g w q k e → Helping m' g' w q k e
  help f = helping-stable n u v m g m' g' c d p y w crew o' f

  silent : is_pending m w ≡ false → is_pending m' w ≡ false
  silent q = (y.done w o q).0

  pub order-stable : (a : Worker) (s : OrderStage) → OrderFacts m g n w a s → OrderFacts m' g' n w a s
  order-stable a OrderStage.Scan f = (unannounced-stable n u v m g m' g' c d p y z w o f.0, scanning-stable n u v m g m' g' c d p y w o f.0.silent f.1)
  order-stable a OrderStage.Announce f = (unannounced-stable n u v m g m' g' c d p y z w o f.0, chosen-stable n u v m g m' g' c d p y w o f.0.silent f.1, f.2)
  order-stable a OrderStage.Look f = own f
  order-stable a OrderStage.Recall f = (own f.0, f.1, silent f.2, passed-stable n u v m g m' g' c d p y w f.2 f.3)
  order-stable a OrderStage.Follow f = (own f.0, f.1, silent f.2, passed-stable n u v m g m' g' c d p y w f.2 f.3, (y.done w o f.2).1 ∙ f.4)

  -- the entry of the poster of the node x after l
  of-poster : (l x b : ℕ) (P : Entry → Type 0) → m.successor l ≡ Some x → b ≤ count_of m (m.poster x) → (count_of m (m.poster x) ≡ b → P (m.entry (m.poster x))) → count_of m' (m'.poster x) ≡ b → P (m'.entry (m'.poster x))
  of-poster l x b P = unwritten-poster n u v m g m' g' c d p y l x b P

  pub finish-enq-stable : (a : Worker) (r : Return) (s : FinishEnqStage) → FinishEnqFacts m g w a r s → FinishEnqFacts m' g' w a r s
  finish-enq-stable a r FinishEnqStage.E1 f =
      (own f.0, helping-in-stable n u v m g m' g' c d p y w crew o' a.phase a.index r f.1, λ b. let x = f.2 b in let s = p.stays (named a.own) x.1 in (x.0, omega arith))
  finish-enq-stable a r FinishEnqStage.E2 f = finishing-enq-stable n u v m g m' g' c d p y z w o o' crew f
  finish-enq-stable a r FinishEnqStage.E3 f = (finishing-enq-stable n u v m g m' g' c d p y z w o o' crew f.0, successor-stable n u v m g m' g' c d p y {l = a.tail} {x = a.next} f.1)
  finish-enq-stable a r FinishEnqStage.E4 f =
      (finishing-enq-stable n u v m g m' g' c d p y z w o o' crew f.0, successor-stable n u v m g m' g' c d p y {l = a.tail} {x = a.next} f.1, read-E3-stable n u v m g m' g' c d p y f.0.was f.1.0 f.2)
  finish-enq-stable a r FinishEnqStage.E5 f = (
    finishing-enq-stable n u v m g m' g' c d p y z w o o' crew f.0,
    successor-stable n u v m g m' g' c d p y {l = a.tail} {x = a.next} f.1,
    read-E3-stable n u v m g m' g' c d p y f.0.was f.1.0 f.2,
    of-poster a.tail (named a.next) a.saved (PostOf (named a.next)) f.1.0 f.2.since f.3,
  )
  finish-enq-stable a r FinishEnqStage.E6 f = (
    finishing-enq-stable n u v m g m' g' c d p y z w o o' crew f.0,
    successor-stable n u v m g m' g' c d p y {l = a.tail} {x = a.next} f.1,
    read-E3-stable n u v m g m' g' c d p y f.0.was f.1.0 f.2,
    of-poster a.tail (named a.next) a.saved (PostOf (named a.next)) f.1.0 f.2.since f.3,
  )
  finish-enq-stable a r FinishEnqStage.E7 f = (
    finishing-enq-stable n u v m g m' g' c d p y z w o o' crew f.0,
    successor-stable n u v m g m' g' c d p y {l = a.tail} {x = a.next} f.1,
    read-E3-stable n u v m g m' g' c d p y f.0.was f.1.0 f.2,
    of-poster a.tail (named a.next) a.saved (λ e. PostOf (named a.next) e × (e.descriptor.phase ≡ a.kept_phase)) f.1.0 f.2.since f.3,
  )
  finish-enq-stable a r FinishEnqStage.E8 f =
      let x = c.next a.tail (named a.next) f.1.0 in
      let b = poster-stable n u v m g m' g' c d p y a.tail (named a.next) f.1.0 in (
        finishing-enq-stable n u v m g m' g' c d p y z w o o' crew f.0,
        successor-stable n u v m g m' g' c d p y {l = a.tail} {x = a.next} f.1,
        λ e. late e (m'.poster (named a.next)) b x.1,
      )
    where
      late : g'.position m'.tail ≡ g'.position a.tail → (k : ℕ) → k ≡ m.poster (named a.next) → g.position (named a.next) ≡ g.position a.tail + 1 → is_pending m' k ≡ false
      late e k b x =
          let s = p.stays a.tail f.0.was.held in
          let t = p.tail_on in
          let h : g.position m.tail ≡ g.position a.tail = omega (arith, f.0.was.low) in
          let j = f.2 h in
          let i = y.late_post (named a.next) (omega arith) in
          ap (is_pending m') b ∙ kept i j
        where
          kept : (m'.entry (m.poster (named a.next)) ≡ m.entry (m.poster (named a.next))) ⊎ (is_pending m' (m.poster (named a.next)) ≡ false) → is_pending m (m.poster (named a.next)) ≡ false → is_pending m' (m.poster (named a.next)) ≡ false
          kept (inl e) j = ap (λ (q : Entry). q.descriptor.pending) e ∙ j
          kept (inr e) j = e

  -- the entry of k
  of_entry : (k b : ℕ) (P : Entry → Type 0) → b ≤ count_of m k → (count_of m k ≡ b → P (m.entry k)) → count_of m' k ≡ b → P (m'.entry k)
  of_entry k b P = unwritten-stable n u v m g m' g' c d p y k b P

  pub finish-deq-stable : (a : Worker) (r : Return) (s : FinishDeqStage) → FinishDeqFacts m g w a r s → FinishDeqFacts m' g' w a r s
  finish-deq-stable a r FinishDeqStage.D1 f =
      (own f.0, helping-in-stable n u v m g m' g' c d p y w crew o' a.phase a.index r f.1, f.2, λ b. let x = f.3 b in (x.0, silent x.1))
  finish-deq-stable a r FinishDeqStage.D2 f = finishing-deq-stable n u v m g m' g' c d p y z w o o' crew f
  finish-deq-stable a r FinishDeqStage.D3 f = (finishing-deq-stable n u v m g m' g' c d p y z w o o' crew f.0, read-D2-stable n u v m g m' g' c d p y z w o f.0 f.1)
  finish-deq-stable a r FinishDeqStage.D4 f =
      (finishing-deq-stable n u v m g m' g' c d p y z w o o' crew f.0, read-D2-stable n u v m g m' g' c d p y z w o f.0 f.1, p.takers a.head (named a.taker) f.2)
  finish-deq-stable a r FinishDeqStage.D5 f =
      (finishing-deq-stable n u v m g m' g' c d p y z w o o' crew f.0, read-D2-stable n u v m g m' g' c d p y z w o f.0 f.1, read-D4-stable n u v m g m' g' c d p y f.0.was f.2)
  finish-deq-stable a r FinishDeqStage.D6 f = (
    finishing-deq-stable n u v m g m' g' c d p y z w o o' crew f.0,
    successor-stable n u v m g m' g' c d p y {l = a.head} {x = a.next} f.1,
    read-D4-stable n u v m g m' g' c d p y f.0.was f.2,
    of_entry (named a.taker) a.saved (FetchOf a.head) f.2.since f.3,
    head-waits-stable n u v m g m' g' c d p y f.2.since f.2.of f.4,
  )
  finish-deq-stable a r FinishDeqStage.D7 f = (
    finishing-deq-stable n u v m g m' g' c d p y z w o o' crew f.0,
    successor-stable n u v m g m' g' c d p y {l = a.head} {x = a.next} f.1,
    read-D4-stable n u v m g m' g' c d p y f.0.was f.2,
    of_entry (named a.taker) a.saved (λ e. FetchOf a.head e × (e.descriptor.phase ≡ a.kept_phase)) f.2.since f.3,
    head-waits-stable n u v m g m' g' c d p y f.2.since f.2.of f.4,
  )
  finish-deq-stable a r FinishDeqStage.D8 f = (
    finishing-deq-stable n u v m g m' g' c d p y z w o o' crew f.0,
    successor-stable n u v m g m' g' c d p y {l = a.head} {x = a.next} f.1,
    read-D4-stable n u v m g m' g' c d p y f.0.was f.2,
    of_entry (named a.taker) a.saved (λ e. FetchOf a.head e × (e.descriptor.phase ≡ a.kept_phase) × (a.node ≡ Some a.head)) f.2.since f.3,
    head-waits-stable n u v m g m' g' c d p y f.2.since f.2.of f.4,
  )
  finish-deq-stable a r FinishDeqStage.D9 f =
      (finishing-deq-stable n u v m g m' g' c d p y z w o o' crew f.0, successor-stable n u v m g m' g' c d p y {l = a.head} {x = a.next} f.1, taker-settled-stable n u v m g m' g' c d p y f.0.was f.2)

  pub help-enq-stable : (a : Worker) (s : HelpEnqStage) → HelpEnqFacts m g w a s → HelpEnqFacts m' g' w a s
  help-enq-stable a HelpEnqStage.C1 f = (own f.0, help f.1)
  help-enq-stable a HelpEnqStage.C2 f = (own f.0, help f.1)
  help-enq-stable a HelpEnqStage.P1 f = (own f.0, help f.1)
  help-enq-stable a HelpEnqStage.P2 f = helping-enq-stable n u v m g m' g' c d p y z w o o' crew f
  help-enq-stable a HelpEnqStage.P3 f = helping-enq-stable n u v m g m' g' c d p y z w o o' crew f
  help-enq-stable a HelpEnqStage.C1AfterP3 f = helping-enq-stable n u v m g m' g' c d p y z w o o' crew f
  help-enq-stable a HelpEnqStage.C2AfterP3 f = (
    helping-enq-stable n u v m g m' g' c d p y z w o o' crew f.0,
    λ e q.
        let s = same-order n u v m g m' g' c d p y w crew a.phase a.index f.0.help.asked q in
        let b = f.1 (no-successor-before n u v m g m' g' c d p y a.tail e) s.0 in
        ap (λ (k : Entry). k.descriptor.pending) (same_post n u v m g m' g' c d p y w crew a.phase a.index a.tail f.0.help f.0.was e s.0 b) ∙ b,
  )
  help-enq-stable a HelpEnqStage.P4 f = (
    helping-enq-stable n u v m g m' g' c d p y z w o o' crew f.0,
    λ e.
        let b = f.1 (no-successor-before n u v m g m' g' c d p y a.tail e) in
        subst (PendingUpTo a.phase) (sym (same_post n u v m g m' g' c d p y w crew a.phase a.index a.tail f.0.help f.0.was e b.1 b.0)) b,
  )
  help-enq-stable a HelpEnqStage.P5 f = (
    helping-enq-stable n u v m g m' g' c d p y z w o o' crew f.0,
    λ e.
        let b = f.1 (no-successor-before n u v m g m' g' c d p y a.tail e) in
        subst (λ (k : Entry). PendingUpTo a.phase k × (k.descriptor.node ≡ a.node)) (sym (same_post n u v m g m' g' c d p y w crew a.phase a.index a.tail f.0.help f.0.was e b.0.1 b.0.0)) b,
  )
