-- The steps of help_deq where there is an element to take are sound.
use Rattle.std.proofs.Common.{◌≡◌, ℕ, ◌+◌, ◌<◌, ◌≤◌, Bool, true, false, cond, not, ◌&&◌, eqb, leb, ◌≢◌, ◌⊎◌, List, ◌∷◌, Some, None, Option, sym, refl, ap, ◌∙◌, subst, inl, inr, arith, is_none}
use Rattle.std.proofs.lemmas.Bool.{cond_both, eqb-true, eqb-false, leb-true, leb-false, and_parts, and_cases, not-true, not-false}
use Rattle.vocabulary.specs.declared.kind.Kind.{Kind}
use Rattle.promise.specs.Events.{Point}
use Rattle.promise.proofs.MapLaws.{put_same}
use Rattle.machine.specs.declared.entry.Entry.{Entry}
use Rattle.machine.specs.declared.entry.OrderKind.{OrderKind}
use Rattle.machine.specs.declared.stage.TakeStage.{TakeStage}
use Rattle.machine.specs.declared.stage.Stage.{Stage}
use Rattle.machine.specs.declared.worker.Worker.{Worker}
use Rattle.machine.specs.Accesses.{described, access_at}
use Rattle.machine.specs.Advances.{worked, is_node, to_help_deq}
use Rattle.machine.specs.HelpAdvances.{pointed, to_finish_deq, in_take, advance_at}
use Rattle.machine.specs.Memory.{Memory, seen_by, left_by, with_entry, with_taker}
use Rattle.linearization.proofs.Ghosts.{Ghost, Write, written, is_pending, node_of, phase_of, count_of, Holds, taken}
use Rattle.linearization.proofs.GhostLaws.{holds-first}
use Rattle.linearization.proofs.Guaranteed.{guaranteed}
use Rattle.linearization.proofs.MemoryInvariant.{ChainOf, EntriesOf, MemoryInvariant}
use Rattle.linearization.proofs.OrderStable.{helping-deq-stable}
use Rattle.linearization.proofs.Sound.{Known, Sound, reads, writes, is-node, not-node, waiting, asked-fetch, past_head, to-next-worker, not_own}
use Rattle.linearization.proofs.SoundEnq.{not-me, own-after}
use Rattle.linearization.proofs.StageFacts.{PendingUpTo, InHelpDeq, TakeFacts}
use Rattle.linearization.proofs.Stable.{helping-stable}
use Rattle.linearization.proofs.Transitions.{Transition}

module _ {T : Type 0} (n w t : ℕ) (m : Memory) (g : Ghost T) (i : MemoryInvariant m g) (crew : w < n) where
  abbrev c : ChainOf m g
  c = i.chain

  abbrev d : EntriesOf m g
  d = i.entries

  deq-after : {e : Write} {p : Option Point} {g' : Ghost T} (v : Worker) → Transition n (w + 1) (w + 1) t m g e p g' → InHelpDeq m g w v → InHelpDeq (written m e) g' w v
  deq-after v by f = let y = guaranteed i by in helping-deq-stable n (w + 1) (w + 1) m g _ _ c d y.chain y.entries y.orders w (not-me w) (not-me w) crew f

  -- T10 reads head again: the entry is to name h, or does already
  sound-T10 : (v : Worker) → TakeFacts m g w v TakeStage.T10 → (b : Bool) → (eqb m.head v.head && not (is_node v.node v.head)) ≡ b → Known m g n w (cond b (in_take v TakeStage.T11) (in_take v TakeStage.T13))
  sound-T10 v f true e =
      let a = and_parts _ _ e in
      let z = eqb-true _ _ a.0 in
      let q = not-node v.node v.head (not-true _ a.1) in
      (f.0, f.1.near, record { since = f.1.since; before = λ x o p k l. let b = d.fetches v.index x p k l in before_head x z q b.0 b.1 (f.1.then o) l }, f.2)
    where
      before_head : (x : ℕ) → m.head ≡ v.head → v.node ≢ Some v.head → 0 < g.position x → g.position x ≤ g.position m.head → node_of m v.index ≡ v.node → node_of m v.index ≡ Some x → g.position x < g.position v.head
      before_head x z j b l e s =
          let k : x ≢ v.head = λ q. j (sym e ∙ s ∙ ap {B = Option ℕ} Some q) in
          let h = ap g.position z in
          grind (arith, c.inverse x b, c.inverse v.head f.0.was.held)
  sound-T10 v f false e = (f.0, go (and_cases _ _ e))
    where
      go : (eqb m.head v.head ≡ false) ⊎ (not (is_node v.node v.head) ≡ false) → m.taker v.head ≡ None → PendingUpTo v.phase (m.entry v.index) × (node_of m v.index ≡ Some v.head)
      go (inl a) h = absurd (c.passed v.head f.0.was.held (past_head n w m g c d crew v.head f.0.was (eqb-false _ _ a)) h)
      go (inr a) h = f.3 (is-node v.node v.head (not-false _ a)) h

  -- T12 has the entry name h, if it was not written since T9
  sound-T12 : (v : Worker) → TakeFacts m g w v TakeStage.T12 → (b : Bool) → eqb (count_of m v.index) v.saved ≡ b
      → Sound n w t m g (cond b (with_entry m v.index (described v.kept_phase true OrderKind.Fetch (Some v.head))) m) (worked (cond b (in_take v TakeStage.T13) (to_help_deq v)))
  sound-T12 v f false e = reads n w t m g (to_help_deq v) (f.0.order, f.0.help)
  sound-T12 v f true e =
      let z = eqb-true _ _ e in
      let a = f.3 z in
      let k = f.0.help.kin a.0.0 a.0.1 in
      let below : (x : ℕ) → node_of m v.index ≡ Some x → g.position x < g.position v.head = λ x j. f.2.before x z a.0.0 k j in
      let by : Transition n (w + 1) (w + 1) t m g (Write.entry v.index (described v.kept_phase true OrderKind.Fetch (Some v.head))) None g = Transition.names_node v.index v.head v.kept_phase a.0.0 k a.1 below f.0.was.held f.0.was.low f.1 in
      let s : (written m (Write.entry v.index (described v.kept_phase true OrderKind.Fetch (Some v.head)))).entry v.index ≡ record { descriptor = described v.kept_phase true OrderKind.Fetch (Some v.head); count = count_of m v.index + 1 } = put_same _ _ _ in
      writes n w t m g (Write.entry v.index (described v.kept_phase true OrderKind.Fetch (Some v.head))) (worked (in_take v TakeStage.T13))
      (Transition.names_node v.index v.head v.kept_phase a.0.0 k a.1 below f.0.was.held f.0.was.low f.1)
      (refl, (deq-after v by f.0, λ _. ((ap (λ (q : Entry). q.descriptor.pending) s, let x = ap (λ (q : Entry). q.descriptor.phase) s in let y = a.0.1 in let l = a.1 in omega arith), ap (λ (q : Entry). q.descriptor.node) s)))

  -- a step of the machine may link and take only where the next node has its element first in the queue
  first : m.taker m.head ≡ None → g.position m.head < g.position m.tail → (x : ℕ) × (y : T) × (rest : List T) × (m.successor m.head ≡ Some x) × (g.element x ≡ Some y) × (g.queue ≡ y ∷ rest) × Holds g.node_at g.element (g.position m.head + 2) (g.last + 1) rest
  first free near = go (m.successor m.head) refl
    where
      held : Holds g.node_at g.element (g.position m.head + 1) (g.last + 1) g.queue
      held = rw free at i.orders.held

      go : (o : Option ℕ) → m.successor m.head ≡ o → (x : ℕ) × (y : T) × (rest : List T) × (m.successor m.head ≡ Some x) × (g.element x ≡ Some y) × (g.queue ≡ y ∷ rest) × Holds g.node_at g.element (g.position m.head + 2) (g.last + 1) rest
      go None e = let a = c.end m.head c.head_in e in let z : ⊥ = omega (arith, c.short m.tail) in absurd z
      go (Some x) e =
          let a = c.next m.head x e in
          let l : g.position m.head + 1 < g.last + 1 = omega (arith, c.short x, a.1) in
          let f = holds-first _ _ l held in
          let at : g.node_at (g.position m.head + 1) ≡ x = ap g.node_at (sym a.1) ∙ c.inverse x (omega (arith, a.1)) in
          let two : g.position m.head + 1 + 1 ≡ g.position m.head + 2 = omega arith in
          (x, f.0, f.1, e, ap g.element (sym at) ∙ f.3, f.2, subst (λ p. Holds g.node_at g.element p (g.last + 1) f.1) two f.4)

  -- T13 makes the helped fetch the taker of h, if it has none
  sound-T13 : (v : Worker) → TakeFacts m g w v TakeStage.T13 → (o : Option ℕ) → m.taker v.head ≡ o
      → Sound n w t m g (cond (is_none o) (with_taker m v.head v.index) m) (cond (is_none o) (pointed v (to_finish_deq v) t Kind.Fetch) (worked (to_finish_deq v)))
  sound-T13 v f (Some x) e = reads n w t m g (to_finish_deq v) (f.0.order, f.0.help, tt, λ b. absurd b)
  sound-T13 v f None e =
      let a = f.1 e in
      let p = a.0.0 in
      let k = f.0.help.kin p a.0.1 in
      let z = at_head (eqb m.head v.head) refl in
      let nd : node_of m v.index ≡ Some m.head = a.1 ∙ ap {B = Option ℕ} Some (sym z) in
      let free : m.taker m.head ≡ None = ap m.taker z ∙ e in
      let o = waiting (g.order v.index) (i.orders.busy v.index p) (i.orders.fetch_waits v.index p k (λ j. grind arith)) in
      let aq = asked-fetch (g.order v.index) o.0 o.1 (i.orders.asks_fetch v.index p k) in
      let q = first free (d.fetches v.index m.head p k nd).2 in
      let by : Transition n (w + 1) (w + 1) t m g (Write.taker m.head v.index) (Some (record { number = t; worker = v.index; kind = Kind.Fetch })) (taken g v.index o.0 t q.1 q.2) = Transition.takes v.index o.0 q.0 q.1 q.2 free p k nd o.1 aq o.2 q.3 q.4 q.5 q.6 in
      let y = guaranteed i by in
      record {
        write = Write.taker m.head v.index;
        point = Some (record { number = t; worker = v.index; kind = Kind.Fetch });
        ghost = taken g v.index o.0 t q.1 q.2;
        by = Transition.takes v.index o.0 q.0 q.1 q.2 free p k nd o.1 aq o.2 q.3 q.4 q.5 q.6;
        leaves = ap (λ h. with_taker m h v.index) (sym z);
        after = (refl, (own-after n w t m g i crew v by f.0.order, helping-stable n (w + 1) (w + 1) m g _ _ c d y.chain y.entries w crew (not-me w) f.0.help, tt, λ b. absurd b));
      }
    where
      at_head : (b : Bool) → eqb m.head v.head ≡ b → m.head ≡ v.head
      at_head true h = eqb-true _ _ h
      at_head false h = absurd (c.passed v.head f.0.was.held (past_head n w m g c d crew v.head f.0.was (eqb-false _ _ h)) e)

  pub sound-take : (v : Worker) (a : TakeStage) → TakeFacts m g w v a → Sound n w t m g (left_by m (access_at m.poster w v (Stage.Take a))) (advance_at n t v (seen_by m (access_at m.poster w v (Stage.Take a))) (Stage.Take a))
  sound-take v TakeStage.T9 f = reads n w t m g _ (f.0, record { near = f.1; since = omega arith; then = λ _. refl }, λ e _ _ _. e)
  sound-take v TakeStage.C1 f =
      reads n w t m g _ (cond_both (is_pending m v.index) _ _ (Known m g n w)
      (λ e. (f.0, f.1, (λ _. e), λ j k p. (e, f.2 j k p e)))
      (λ e. to-next-worker n w m g c d crew v f.0.order (λ j. ap (is_pending m) (sym j) ∙ e)))
  sound-take v TakeStage.C2 f =
      reads n w t m g _ (cond_both (leb (phase_of m v.index) v.phase) _ _ (Known m g n w)
      (λ e. let a = leb-true _ _ e in (f.0, f.1, (λ j. (f.2 j, a)), λ j k. let b = f.3 j k a in ((b.0, a), b.1)))
      (λ e. to-next-worker n w m g c d crew v f.0.order (not_own n w m g c d crew v f.0.order (leb-false _ _ e))))
  sound-take v TakeStage.T10 f = reads n w t m g _ (sound-T10 v f (eqb m.head v.head && not (is_node v.node v.head)) refl)
  sound-take v TakeStage.T11 f = reads n w t m g _ (f.0, f.1, f.2, λ e. (f.3 e, refl))
  sound-take v TakeStage.T12 f = sound-T12 v f (eqb (count_of m v.index) v.saved) refl
  sound-take v TakeStage.T13 f = sound-T13 v f (m.taker v.head) refl
