-- The steps of help_finish_deq are sound.
use Rattle.std.proofs.Common.{◌≡◌, ℕ, ◌+◌, ◌<◌, Bool, true, false, cond, eqb, ◌≢◌, ◌⊎◌, Some, None, Option, sym, refl, ap, ◌∙◌, inl, inr, arith}
use Rattle.std.proofs.lemmas.Bool.{eqb-true, eqb-false}
use Rattle.promise.specs.Events.{Point}
use Rattle.promise.proofs.MapLaws.{put_same}
use Rattle.machine.specs.declared.entry.Entry.{Entry}
use Rattle.machine.specs.declared.entry.OrderKind.{OrderKind}
use Rattle.machine.specs.declared.stage.FinishDeqStage.{FinishDeqStage}
use Rattle.machine.specs.declared.stage.Return.{Return}
use Rattle.machine.specs.declared.stage.Stage.{Stage}
use Rattle.machine.specs.declared.worker.Worker.{Worker}
use Rattle.machine.specs.Accesses.{named, described, access_at}
use Rattle.machine.specs.Advances.{worked, finished_deq, after_d3, after_d5, deq}
use Rattle.machine.specs.HelpAdvances.{advance_at}
use Rattle.machine.specs.Memory.{Memory, seen_by, left_by, with_entry, with_head}
use Rattle.machine.specs.Registers.{goto, with_taker}
use Rattle.linearization.proofs.Ghosts.{Ghost, Write, written, is_pending, count_of}
use Rattle.linearization.proofs.Guaranteed.{guaranteed}
use Rattle.linearization.proofs.MemoryInvariant.{ChainOf, EntriesOf, MemoryInvariant}
use Rattle.linearization.proofs.OrderStable.{finishing-deq-stable}
use Rattle.linearization.proofs.Preserved.{preserved}
use Rattle.linearization.proofs.Sound.{Sound, reads, ends, writes, past_head, deq-finished}
use Rattle.linearization.proofs.SoundEnq.{not-me}
use Rattle.linearization.proofs.StageFacts.{InFinishDeq, FinishDeqFacts}
use Rattle.linearization.proofs.Transitions.{Transition}

module _ {T : Type 0} (n w t : ℕ) (m : Memory) (g : Ghost T) (i : MemoryInvariant m g) (crew : w < n) where
  abbrev c : ChainOf m g
  c = i.chain

  abbrev d : EntriesOf m g
  d = i.entries

  deq-after : {e : Write} {p : Option Point} {g' : Ghost T} (v : Worker) (r : Return) → Transition n (w + 1) (w + 1) t m g e p g' → InFinishDeq m g w v r → InFinishDeq (written m e) g' w v r
  deq-after v r by f = let y = guaranteed i by in finishing-deq-stable n (w + 1) (w + 1) m g _ _ c d y.chain y.entries y.orders w (not-me w) (not-me w) crew f

  -- help_finish_deq ends, head being past h
  ends-past : (v : Worker) (r : Return) → InFinishDeq m g w v r → m.head ≢ v.head → Sound n w t m g m (finished_deq n v r)
  ends-past v r f e =
      ends n w t m g (finished_deq n v r) (deq-finished n w m g c d crew v r v.head f (λ b x j. let a = (f.aim b).2 x j in let l = past_head n w m g c d crew v.head f.was e in omega arith))

  -- D3 reads h's taker
  sound-D3 : (v : Worker) (r : Return) → FinishDeqFacts m g w v r FinishDeqStage.D3 → (o : Option ℕ) → m.taker v.head ≡ o → Sound n w t m g m (after_d3 n v r o)
  sound-D3 v r f None e =
      ends n w t m g (finished_deq n (with_taker v None v.stage) r) (deq-finished n w m g c d crew (with_taker v None v.stage) r v.head f.0
      (λ b x j. let a = (f.0.aim b).2 x j in let l = c.taker_low x w j in grind (arith, c.inverse v.head f.0.was.held, c.inverse x l.0, f.0.was.low)))
  sound-D3 v r f (Some k) e = reads n w t m g (with_taker v (Some k) (deq FinishDeqStage.D4 r)) (f.0, f.1, e)

  -- D5 reads head again
  sound-D5 : (v : Worker) (r : Return) → FinishDeqFacts m g w v r FinishDeqStage.D5 → (o : Option ℕ) → v.next ≡ o → (b : Bool) → eqb m.head v.head ≡ b → Sound n w t m g m (after_d5 n v r b o)
  sound-D5 v r f None h b e = ends n w t m g (finished_deq n v r) (deq-finished n w m g c d crew v r v.head f.0 (λ b x j. let a = f.1.none b h x j in let l = f.0.was.low in omega arith))
  sound-D5 v r f (Some x) h true e =
      let z = eqb-true _ _ e in
      let a = d.claimed (named v.taker) (ap m.taker z ∙ f.2.of) in
      let nx : named v.next ≡ x = ap named h in
      reads n w t m g (goto v (deq FinishDeqStage.D6 r))
      (f.0, (f.1.then x h ∙ ap {B = Option ℕ} Some (sym nx), h ∙ ap {B = Option ℕ} Some (sym nx)), f.2, (λ _. (a.0, a.1 ∙ ap {B = Option ℕ} Some z)), λ _ _. z)
  sound-D5 v r f (Some x) h false e = ends-past v r f.0 (eqb-false _ _ e)

  -- D8 settles the fetch of h's taker, if its entry was not written since D4
  sound-D8 : (v : Worker) (r : Return) → FinishDeqFacts m g w v r FinishDeqStage.D8 → (b : Bool) → eqb (count_of m (named v.taker)) v.saved ≡ b
      → Sound n w t m g (cond b (with_entry m (named v.taker) (described v.kept_phase false OrderKind.Fetch v.node)) m) (worked (goto v (deq FinishDeqStage.D9 r)))
  sound-D8 v r f true e =
      let z = eqb-true _ _ e in
      let a = f.3 z in
      let by : Transition n w w t m g (Write.entry (named v.taker) (described v.kept_phase false OrderKind.Fetch v.node)) None g = Transition.settles (named v.taker) v.head v.kept_phase v.node a.1 a.0.0 (a.0.1 ∙ sym a.2) a.2 f.2.of (f.4 z) in
      let by' : Transition n (w + 1) (w + 1) t m g (Write.entry (named v.taker) (described v.kept_phase false OrderKind.Fetch v.node)) None g = Transition.settles (named v.taker) v.head v.kept_phase v.node a.1 a.0.0 (a.0.1 ∙ sym a.2) a.2 f.2.of (f.4 z) in
      writes n w t m g (Write.entry (named v.taker) (described v.kept_phase false OrderKind.Fetch v.node)) (worked (goto v (deq FinishDeqStage.D9 r))) by
      (refl, (deq-after v r by' f.0, f.1, record { k = named v.taker; of = f.2.of; shut = λ _. ap (λ (q : Entry). q.descriptor.pending) (put_same _ _ _) }))
  sound-D8 v r f false e = reads n w t m g (goto v (deq FinishDeqStage.D9 r)) (f.0, f.1, record { k = named v.taker; of = f.2.of; shut = λ h. done (f.2.race h) })
    where
      done : (count_of m (named v.taker) ≡ v.saved) ⊎ (is_pending m (named v.taker) ≡ false) → is_pending m (named v.taker) ≡ false
      done (inl a) = absurd (eqb-false _ _ e a)
      done (inr a) = a

  -- D9 moves head, if it is still h
  sound-D9 : (v : Worker) (r : Return) → FinishDeqFacts m g w v r FinishDeqStage.D9 → (b : Bool) → eqb m.head v.head ≡ b → Sound n w t m g (cond b (with_head m (named v.next)) m) (finished_deq n v r)
  sound-D9 v r f true e =
      let h = eqb-true _ _ e in
      let a : m.successor m.head ≡ Some (named v.next) = ap m.successor h ∙ f.1.0 in
      let b : m.taker m.head ≡ Some f.2.k = ap m.taker h ∙ f.2.of in
      let s = f.2.shut (ap g.position h) in
      let x = c.next m.head (named v.next) a in
      let l = ap g.position h in
      let q = preserved i {n = n} {u = w} {v = w} {t = t} (Transition.moves_head f.2.k (named v.next) a b s) in
      let by' : Transition n (w + 1) (w + 1) t m g (Write.head (named v.next)) None g = Transition.moves_head f.2.k (named v.next) a b s in
      writes n w t m g (Write.head (named v.next)) (finished_deq n v r) (Transition.moves_head f.2.k (named v.next) a b s)
      (deq-finished n w _ g q.chain q.entries crew v r v.head (deq-after v r by' f.0) (λ b y j. let k = (f.0.aim b).2 y j in omega arith))
  sound-D9 v r f false e = ends-past v r f.0 (eqb-false _ _ e)

  pub sound-finish-deq : (v : Worker) (r : Return) (a : FinishDeqStage) → FinishDeqFacts m g w v r a → Sound n w t m g (left_by m (access_at m.poster w v (Stage.FinishDeq a r))) (advance_at n t v (seen_by m (access_at m.poster w v (Stage.FinishDeq a r))) (Stage.FinishDeq a r))
  sound-finish-deq v r FinishDeqStage.D1 f =
      reads n w t m g _ (record { order = f.0; help = f.1; from = f.2; was = record { held = c.head_in; low = omega arith }; aim = λ b. let a = f.3 b in (a.0, a.1, λ x j. (c.taker_low x w j).1) })
  sound-finish-deq v r FinishDeqStage.D2 f =
      reads n w t m g _ (f, record { then = λ y e. e; none = λ b e x j. let a = (f.aim b).2 x j in let l = c.taker_low x w j in let k = c.end v.head f.was.held e in omega (arith, c.short m.tail) })
  sound-finish-deq v r FinishDeqStage.D3 f = sound-D3 v r f (m.taker v.head) refl
  sound-finish-deq v r FinishDeqStage.D4 f = reads n w t m g _ (f.0, f.1, record { of = f.2; since = omega arith; race = λ _. inl refl })
  sound-finish-deq v r FinishDeqStage.D5 f = sound-D5 v r f v.next refl (eqb m.head v.head) refl
  sound-finish-deq v r FinishDeqStage.D6 f = reads n w t m g _ (f.0, f.1, f.2, (λ e. (f.3 e, refl)), f.4)
  sound-finish-deq v r FinishDeqStage.D7 f = reads n w t m g _ (f.0, f.1, f.2, (λ e. let a = f.3 e in (a.0, a.1, a.0.1)), f.4)
  sound-finish-deq v r FinishDeqStage.D8 f = sound-D8 v r f (eqb (count_of m (named v.taker)) v.saved) refl
  sound-finish-deq v r FinishDeqStage.D9 f = sound-D9 v r f (eqb m.head v.head) refl
