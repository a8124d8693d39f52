-- The steps of help_finish_enq and help_enq are sound.
use Rattle.std.proofs.Common.{◌≡◌, ℕ, ◌+◌, ◌<◌, Bool, true, false, cond, eqb, leb, ◌≢◌, ◌⊎◌, Some, None, Option, sym, refl, ap, ◌∙◌, inl, inr, arith, is_none}
use Rattle.std.proofs.lemmas.Bool.{cond_both, eqb-true, eqb-false, leb-true, leb-false}
use Rattle.vocabulary.specs.declared.kind.Kind.{Kind}
use Rattle.promise.specs.Events.{Point}
use Rattle.promise.specs.Maps.{put}
use Rattle.promise.proofs.MapLaws.{put_same, put-tells}
use Rattle.machine.specs.declared.entry.Entry.{Entry}
use Rattle.machine.specs.declared.entry.OrderKind.{OrderKind}
use Rattle.machine.specs.declared.stage.FinishEnqStage.{FinishEnqStage}
use Rattle.machine.specs.declared.stage.HelpEnqStage.{HelpEnqStage}
use Rattle.machine.specs.declared.stage.Return.{Return}
use Rattle.machine.specs.declared.stage.Stage.{Stage}
use Rattle.machine.specs.declared.worker.Worker.{Worker}
use Rattle.machine.specs.Accesses.{named, described, access_at}
use Rattle.machine.specs.Advances.{worked, same_node, to_help_enq, finished_enq, after_e2, enq}
use Rattle.machine.specs.HelpAdvances.{pointed, to_finish_enq, after_p3, advance_at}
use Rattle.machine.specs.Memory.{Memory, seen_by, left_by, with_entry, with_tail, with_successor}
use Rattle.machine.specs.Registers.{goto, with_next}
use Rattle.linearization.proofs.Ghosts.{Ghost, Write, written, is_pending, kind_of, node_of, phase_of, count_of, linked}
use Rattle.linearization.proofs.Guaranteed.{guaranteed}
use Rattle.linearization.proofs.MemoryInvariant.{ChainOf, EntriesOf, MemoryInvariant}
use Rattle.linearization.proofs.OrderStable.{announced-stable, finishing-enq-stable}
use Rattle.linearization.proofs.Preserved.{preserved, not-linked}
use Rattle.linearization.proofs.Sound.{Known, Sound, reads, ends, writes, other-node, waiting, asked-post, past-tail, to-next-worker, not_own, enq-finished, enq-passed}
use Rattle.linearization.proofs.StageFacts.{OwnOrder, InFinishEnq, FinishEnqFacts, InHelpEnq, HelpEnqFacts}
use Rattle.linearization.proofs.Transitions.{Transition}

pub not-me : (w : ℕ) → w ≢ w + 1
not-me w e = omega arith

module _ {T : Type 0} (n w t : ℕ) (m : Memory) (g : Ghost T) (i : MemoryInvariant m g) (crew : w < n) where
  abbrev c : ChainOf m g
  c = i.chain

  abbrev d : EntriesOf m g
  d = i.entries

  -- what the worker knows of its own order, and of its own help_finish_enq, after a transition of its own
  pub own-after : {e : Write} {p : Option Point} {g' : Ghost T} {x : ℕ} (v : Worker) → Transition n (w + 1) x t m g e p g' → OwnOrder m g w v → OwnOrder (written m e) g' w v
  own-after {x = x} v by f = let y = guaranteed i by in announced-stable n (w + 1) x m g _ _ c d y.chain y.entries y.orders w (not-me w) f

  enq-after : {e : Write} {p : Option Point} {g' : Ghost T} (v : Worker) (r : Return) → Transition n (w + 1) (w + 1) t m g e p g' → InFinishEnq m g w v r → InFinishEnq (written m e) g' w v r
  enq-after v r by f = let y = guaranteed i by in finishing-enq-stable n (w + 1) (w + 1) m g _ _ c d y.chain y.entries y.orders w (not-me w) (not-me w) crew f

  -- E2 reads l's successor
  sound-E2 : (v : Worker) (r : Return) → InFinishEnq m g w v r → (o : Option ℕ) → m.successor v.tail ≡ o → Sound n w t m g m (after_e2 n v r o)
  sound-E2 v r f None e =
      ends n w t m g (finished_enq n (with_next v None v.stage) r) (enq-finished n w m g c d crew (with_next v None v.stage) r f.order f.help (λ b. let a = f.aim b in let h = c.end v.tail f.was.held e in (a.0, a.1, omega (arith, c.short (named v.own), c.short m.tail, f.was.low))))
  sound-E2 v r f (Some y) e = reads n w t m g (with_next v (Some y) (enq FinishEnqStage.E3 r)) (f, (e, refl))

  -- E7 finishes the post of the node's poster, if its entry was not written since E3
  sound-E7 : (v : Worker) (r : Return) → FinishEnqFacts m g w v r FinishEnqStage.E7 → (b : Bool) → eqb (count_of m (m.poster (named v.next))) v.saved ≡ b
      → Sound n w t m g (cond b (with_entry m (m.poster (named v.next)) (described v.kept_phase false OrderKind.Post v.next)) m) (worked (goto v (enq FinishEnqStage.E8 r)))
  sound-E7 v r f true e =
      let a = f.3 (eqb-true _ _ e) in
      let x = c.next v.tail (named v.next) f.1.0 in
      let l : 0 < g.position (named v.next) = omega arith in
      writes n w t m g (Write.entry (m.poster (named v.next)) (described v.kept_phase false OrderKind.Post v.next)) (worked (goto v (enq FinishEnqStage.E8 r)))
      (Transition.finishes (m.poster (named v.next)) (named v.next) v.kept_phase v.next a.1 a.0.0 a.0.1 f.1.1 l refl)
      (refl, (enq-after v r (Transition.finishes (m.poster (named v.next)) (named v.next) v.kept_phase v.next a.1 a.0.0 a.0.1 f.1.1 l refl) f.0, f.1, λ _. ap (λ (q : Entry). q.descriptor.pending) (put_same _ _ _)))
  sound-E7 v r f false e = reads n w t m g (goto v (enq FinishEnqStage.E8 r)) (f.0, f.1, λ h. done (f.2.race h))
    where
      done : (count_of m (m.poster (named v.next)) ≡ v.saved) ⊎ (is_pending m (m.poster (named v.next)) ≡ false) → is_pending m (m.poster (named v.next)) ≡ false
      done (inl a) = absurd (eqb-false _ _ e a)
      done (inr a) = a

  -- E8 moves tail, if it is still l
  sound-E8 : (v : Worker) (r : Return) → FinishEnqFacts m g w v r FinishEnqStage.E8 → (b : Bool) → eqb m.tail v.tail ≡ b → Sound n w t m g (cond b (with_tail m (named v.next)) m) (finished_enq n v r)
  sound-E8 v r f true e =
      let h = eqb-true _ _ e in
      let a : m.successor m.tail ≡ Some (named v.next) = ap m.successor h ∙ f.1.0 in
      let b = f.2 (ap g.position h) in
      let x = c.next m.tail (named v.next) a in
      let q = preserved i {n = n} {u = w} {v = w} {t = t} (Transition.moves_tail (named v.next) a b) in
      writes n w t m g (Write.tail (named v.next)) (finished_enq n v r) (Transition.moves_tail (named v.next) a b)
      (enq-passed n w _ g q.chain q.entries crew v r (enq-after v r (Transition.moves_tail (named v.next) a b) f.0) (let p = ap g.position h in omega arith))
  sound-E8 v r f false e = ends n w t m g (finished_enq n v r) (enq-passed n w m g c d crew v r f.0 (past-tail n w m g c d crew v.tail f.0.was (eqb-false _ _ e)))

  pub sound-finish-enq : (v : Worker) (r : Return) (a : FinishEnqStage) → FinishEnqFacts m g w v r a → Sound n w t m g (left_by m (access_at m.poster w v (Stage.FinishEnq a r))) (advance_at n t v (seen_by m (access_at m.poster w v (Stage.FinishEnq a r))) (Stage.FinishEnq a r))
  sound-finish-enq v r FinishEnqStage.E1 f =
      reads n w t m g _ (record { order = f.0; help = f.1; was = record { held = c.tail_in; low = omega arith }; aim = λ b. let h = f.2 b in (h.0, h.1, omega (arith, c.short (named v.own), c.tail_near)) })
  sound-finish-enq v r FinishEnqStage.E2 f = sound-E2 v r f (m.successor v.tail) refl
  sound-finish-enq v r FinishEnqStage.E3 f = reads n w t m g _ (f.0, f.1, record { since = omega arith; race = λ _. inl refl })
  sound-finish-enq v r FinishEnqStage.E4 f =
      cond_both (eqb m.tail v.tail) _ _ (Sound n w t m g m)
      (λ e. let a = c.next v.tail (named v.next) f.1.0 in let z = ap g.position (eqb-true _ _ e) in reads n w t m g (goto v (enq FinishEnqStage.E5 r)) (f.0, f.1, f.2, λ _. d.behind (named v.next) (omega arith)))
      (λ e. ends n w t m g (finished_enq n v r) (enq-passed n w m g c d crew v r f.0 (past-tail n w m g c d crew v.tail f.0.was (eqb-false _ _ e))))
  sound-finish-enq v r FinishEnqStage.E5 f =
      cond_both (same_node (node_of m (m.poster (named v.next))) v.next) _ _ (Sound n w t m g m)
      (λ e. reads n w t m g (goto v (enq FinishEnqStage.E6 r)) f)
      (λ e. let a = c.next v.tail (named v.next) f.1.0 in let z = other-node _ _ (named v.next) f.1.1 e in ends n w t m g (finished_enq n v r) (enq-passed n w m g c d crew v r f.0 (grind (arith, d.behind (named v.next), f.0.was))))
  sound-finish-enq v r FinishEnqStage.E6 f = reads n w t m g _ (f.0, f.1, f.2, λ e. (f.3 e, refl))
  sound-finish-enq v r FinishEnqStage.E7 f = sound-E7 v r f (eqb (count_of m (m.poster (named v.next))) v.saved) refl
  sound-finish-enq v r FinishEnqStage.E8 f = sound-E8 v r f (eqb m.tail v.tail) refl

  sound-P3 : (v : Worker) → InHelpEnq m g w v → (o : Option ℕ) (b : Bool) → Known m g n w (cond b (after_p3 v o) (to_help_enq v))
  sound-P3 v f o false = (f.order, f.help)
  sound-P3 v f None true = f
  sound-P3 v f (Some x) true = (f.order, f.help, λ b. absurd b)

  -- P5 links the node of the helped post, if l is still the last node
  sound-P5 : (v : Worker) → HelpEnqFacts m g w v HelpEnqStage.P5 → (o : Option ℕ) → m.successor v.tail ≡ o
      → Sound n w t m g (cond (is_none o) (with_successor m v.tail v.node) m) (cond (is_none o) (pointed v (to_finish_enq v Return.NextWorker) t Kind.Post) (worked (to_help_enq v)))
  sound-P5 v f (Some y) e = reads n w t m g (to_help_enq v) (f.0.order, f.0.help)
  sound-P5 v f None e = go v.node refl
    where
      go : (o : Option ℕ) → v.node ≡ o → Sound n w t m g (with_successor m v.tail v.node) (pointed v (to_finish_enq v Return.NextWorker) t Kind.Post)
      go None h = let a = f.1 e in let q = f.0.help.kin a.0.0 a.0.1 in absurd (d.post_node v.index a.0.0 q (a.1 ∙ h))
      go (Some x) h =
          let a = f.1 e in
          let p = a.0.0 in
          let q = f.0.help.kin p a.0.1 in
          let nd = a.1 ∙ h in
          let last = c.end v.tail f.0.was.held e in
          let at : g.position m.tail ≡ g.last = omega (arith, c.short m.tail, f.0.was.low) in
          let z = not-linked m g c d v.index x at p q nd in
          let o = waiting (g.order v.index) (i.orders.busy v.index p) (i.orders.post_waits v.index x p q nd z) in
          let y = asked-post (g.order v.index) o.0 (g.element x) o.1 (i.orders.asks_post v.index x p q nd) in
          record {
            write = Write.successor v.tail x;
            point = Some (record { number = t; worker = v.index; kind = Kind.Post });
            ghost = linked g x v.index o.0 t y.0;
            by = Transition.links v.index v.tail x o.0 y.0 e last at p q nd o.1 y.2 o.2 y.1;
            leaves = ap (with_successor m v.tail) h;
            after = (refl, (own-after {g' = linked g x v.index o.0 t y.0} {x = w + 1} v (Transition.links v.index v.tail x o.0 y.0 e last at p q nd o.1 y.2 o.2 y.1) f.0.order, tt, λ j. own-linked x j q nd));
          }
        where
          own-linked : (x : ℕ) → v.index ≡ w → kind_of m v.index ≡ OrderKind.Post → node_of m v.index ≡ Some x → (v.kind ≡ OrderKind.Post) × (0 < put g.position x (g.last + 1) (named v.own))
          own-linked x j q nd =
              let p : v.kind ≡ OrderKind.Post = sym f.0.order.kinded ∙ ap (kind_of m) (sym j) ∙ q in
              let b = (f.0.order.post p).names in
              let s : node_of m w ≡ Some x = ap (node_of m) (sym j) ∙ nd in
              let r : named v.own ≡ x = cc in
              (p, grind (arith, put-tells))

  pub sound-help-enq : (v : Worker) (a : HelpEnqStage) → HelpEnqFacts m g w v a → Sound n w t m g (left_by m (access_at m.poster w v (Stage.HelpEnq a))) (advance_at n t v (seen_by m (access_at m.poster w v (Stage.HelpEnq a))) (Stage.HelpEnq a))
  sound-help-enq v HelpEnqStage.C1 f =
      reads n w t m g _ (cond_both (is_pending m v.index) _ _ (Known m g n w) (λ e. f) (λ e. to-next-worker n w m g c d crew v f.0 (λ j. ap (is_pending m) (sym j) ∙ e)))
  sound-help-enq v HelpEnqStage.C2 f =
      reads n w t m g _ (cond_both (leb (phase_of m v.index) v.phase) _ _ (Known m g n w) (λ e. f) (λ e. to-next-worker n w m g c d crew v f.0 (not_own n w m g c d crew v f.0 (leb-false _ _ e))))
  sound-help-enq v HelpEnqStage.P1 f = reads n w t m g _ (record { order = f.0; help = f.1; was = record { held = c.tail_in; low = omega arith } })
  sound-help-enq v HelpEnqStage.P2 f = reads n w t m g _ f
  sound-help-enq v HelpEnqStage.P3 f = reads n w t m g _ (sound-P3 v f v.next (eqb m.tail v.tail))
  sound-help-enq v HelpEnqStage.C1AfterP3 f =
      reads n w t m g _ (cond_both (is_pending m v.index) _ _ (Known m g n w) (λ e. (f, λ _ _. e)) (λ e. (f.order, f.help)))
  sound-help-enq v HelpEnqStage.C2AfterP3 f =
      reads n w t m g _ (cond_both (leb (phase_of m v.index) v.phase) _ _ (Known m g n w) (λ e. let a = leb-true _ _ e in (f.0, λ j. (f.1 j a, a))) (λ e. (f.0.order, f.0.help)))
  sound-help-enq v HelpEnqStage.P4 f = reads n w t m g _ (f.0, λ e. (f.1 e, refl))
  sound-help-enq v HelpEnqStage.P5 f = sound-P5 v f (m.successor v.tail) refl
