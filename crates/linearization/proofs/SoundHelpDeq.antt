-- The steps of help_deq are sound.
use Rattle.std.proofs.Common.{◌≡◌, ℕ, ◌+◌, ◌<◌, Bool, true, false, cond, eqb, leb, ◌≢◌, [], Some, None, Option, sym, refl, ap, ◌∙◌, arith}
use Rattle.std.proofs.lemmas.Bool.{cond_both, eqb-true, eqb-false, leb-true, leb-false}
use Rattle.vocabulary.specs.declared.kind.Kind.{Kind}
use Rattle.promise.specs.Events.{Point}
use Rattle.promise.proofs.MapLaws.{put_same}
use Rattle.machine.specs.declared.entry.OrderKind.{OrderKind}
use Rattle.machine.specs.declared.stage.EmptyStage.{EmptyStage}
use Rattle.machine.specs.declared.stage.HelpDeqStage.{HelpDeqStage}
use Rattle.machine.specs.declared.stage.Stage.{Stage}
use Rattle.machine.specs.declared.worker.Worker.{Worker}
use Rattle.machine.specs.Accesses.{described, access_at}
use Rattle.machine.specs.Advances.{worked, to_help_deq}
use Rattle.machine.specs.HelpAdvances.{pointed, after_t4, advance_at}
use Rattle.machine.specs.Memory.{Memory, seen_by, left_by, with_entry}
use Rattle.machine.specs.Registers.{with_t3}
use Rattle.linearization.proofs.Ghosts.{Ghost, Write, written, is_pending, node_of, phase_of, count_of, placing_in, Holds, front_of, marked, found_empty}
use Rattle.linearization.proofs.GhostLaws.{holds-empty}
use Rattle.linearization.proofs.Guaranteed.{guaranteed}
use Rattle.linearization.proofs.MemoryInvariant.{ChainOf, EntriesOf, MemoryInvariant}
use Rattle.linearization.proofs.OrderStable.{helping-deq-stable}
use Rattle.linearization.proofs.Sound.{Known, Sound, reads, waiting, asked-fetch, to-next-worker, not_own}
use Rattle.linearization.proofs.SoundEnq.{not-me, own-after}
use Rattle.linearization.proofs.StageFacts.{WasHead, InHelpDeq, HelpDeqFacts, EmptyFacts}
use Rattle.linearization.proofs.Stable.{kin-stable}
use Rattle.linearization.proofs.Transitions.{Transition}

module _ {T : Type 0} (n w t : ℕ) (m : Memory) (g : Ghost T) (i : MemoryInvariant m g) (crew : w < n) (low : (k : ℕ) → placing_in (g.order k) < t) where
  abbrev c : ChainOf m g
  c = i.chain

  abbrev d : EntriesOf m g
  d = i.entries

  deq-after : {e : Write} {p : Option Point} {g' : Ghost T} (v : Worker) → Transition n (w + 1) (w + 1) t m g e p g' → InHelpDeq m g w v → InHelpDeq (written m e) g' w v
  deq-after v by f = let y = guaranteed i by in helping-deq-stable n (w + 1) (w + 1) m g _ _ c d y.chain y.entries y.orders w (not-me w) (not-me w) crew f

  -- where h was head and has no successor, the queue is empty
  no-successor : (h : ℕ) → WasHead m g h → m.successor h ≡ None → g.queue ≡ []
  no-successor h f e = let a = c.end h f.held e in go (m.taker m.head) refl i.orders.held
    where
      go : (o : Option ℕ) → m.taker m.head ≡ o → Holds g.node_at g.element (front_of (m.taker m.head) (g.position m.head)) (g.last + 1) g.queue → g.queue ≡ []
      go None h x = holds-empty _ _ (let a = c.end _ f.held e in omega (arith, f.low)) (rw h at x)
      go (Some k) h x = holds-empty _ _ (let a = c.end _ f.held e in omega (arith, f.low)) (rw h at x)

  -- T3 reads h's successor; where there is none, it has seen the queue empty
  sound-T3 : (v : Worker) → HelpDeqFacts m g w v HelpDeqStage.T3 → (o : Option ℕ) → m.successor v.head ≡ o → Sound n w t m g m (worked (with_t3 v o t (Stage.HelpDeq HelpDeqStage.T4)))
  sound-T3 v f (Some x) e = reads n w t m g (with_t3 v (Some x) t (Stage.HelpDeq HelpDeqStage.T4)) (f.0, f.1, f.2, λ h. let z : ⊥ = grind arith in absurd z)
  sound-T3 v f None e =
      let q = no-successor v.head f.0.was e in
      let by : Transition n (w + 1) w t m g Write.nothing None (marked g w t) = Transition.sees_empty q in
      record {
        write = Write.nothing;
        point = None;
        ghost = marked g w t;
        by = Transition.sees_empty q;
        leaves = refl;
        after = (
          refl,
          (
            record { order = own-after n w t m g i crew v by f.0.order; help = record { asked = f.0.help.asked; kin = f.0.help.kin }; was = record { held = f.0.was.held; low = f.0.was.low } },
            record { held = f.1.held; low = f.1.low },
            f.2,
            λ _. record { saw = put_same _ _ _; after = λ _ _. low v.index },
          ),
        );
      }

  sound-T4 : (v : Worker) → HelpDeqFacts m g w v HelpDeqStage.T4 → (o : Option ℕ) → v.next ≡ o → (a b : Bool) → eqb m.head v.head ≡ a → eqb v.head v.tail ≡ b → Known m g n w (cond a (after_t4 v b o) (to_help_deq v))
  sound-T4 v f o h false b e j = (f.0.order, f.0.help)
  sound-T4 v f o h true false e j =
      let z = eqb-false _ _ j in
      (f.0, grind (arith, c.inverse v.head f.0.was.held, c.inverse v.tail f.1.held, f.1.low, f.2))
  sound-T4 v f None h true true e j = (f.0, f.3 h, sym (eqb-true _ _ j))
  sound-T4 v f (Some x) h true true e j = (f.0.order, f.0.help, λ b. absurd b)

  pub sound-help-deq : (v : Worker) (a : HelpDeqStage) → HelpDeqFacts m g w v a → Sound n w t m g (left_by m (access_at m.poster w v (Stage.HelpDeq a))) (advance_at n t v (seen_by m (access_at m.poster w v (Stage.HelpDeq a))) (Stage.HelpDeq a))
  sound-help-deq v HelpDeqStage.C1 f =
      reads n w t m g _ (cond_both (is_pending m v.index) _ _ (Known m g n w) (λ e. f) (λ e. to-next-worker n w m g c d crew v f.0 (λ j. ap (is_pending m) (sym j) ∙ e)))
  sound-help-deq v HelpDeqStage.C2 f =
      reads n w t m g _ (cond_both (leb (phase_of m v.index) v.phase) _ _ (Known m g n w) (λ e. f) (λ e. to-next-worker n w m g c d crew v f.0 (not_own n w m g c d crew v f.0 (leb-false _ _ e))))
  sound-help-deq v HelpDeqStage.T1 f = reads n w t m g _ (record { order = f.0; help = f.1; was = record { held = c.head_in; low = omega arith } })
  sound-help-deq v HelpDeqStage.T2 f = reads n w t m g _ (f, record { held = c.tail_in; low = omega arith }, omega (arith, c.head_low, f.was.low))
  sound-help-deq v HelpDeqStage.T3 f = sound-T3 v f (m.successor v.head) refl
  sound-help-deq v HelpDeqStage.T4 f = reads n w t m g _ (sound-T4 v f v.next refl (eqb m.head v.head) (eqb v.head v.tail) refl refl)

  -- T8 says in the entry that the fetch found nothing, if it was not written since T5
  sound-T8 : (v : Worker) → EmptyFacts m g w v EmptyStage.T8 → (b : Bool) → eqb (count_of m v.index) v.saved ≡ b
      → Sound n w t m g (cond b (with_entry m v.index (described v.kept_phase false OrderKind.Fetch None)) m) (cond b (pointed v (to_help_deq v) v.t3 Kind.None) (worked (to_help_deq v)))
  sound-T8 v f false e = reads n w t m g (to_help_deq v) (f.0.order, f.0.help)
  sound-T8 v f true e =
      let z = eqb-true _ _ e in
      let a = f.3 z in
      let k = f.0.help.kin a.0.0 a.0.1 in
      let below : (x : ℕ) → node_of m v.index ≡ Some x → g.position x < g.position m.head = λ x j. let q = f.2.before x z a.0.0 k j in let l = f.0.was.low in omega arith in
      let free : m.taker m.head ≢ Some v.index = λ j. let b = below m.head (d.claimed v.index j).1 in omega arith in
      let o = waiting (g.order v.index) (i.orders.busy v.index a.0.0) (i.orders.fetch_waits v.index a.0.0 k free) in
      let aq = asked-fetch (g.order v.index) o.0 o.1 (i.orders.asks_fetch v.index a.0.0 k) in
      let pl : o.0.placing < v.t3 = let b = f.1.after a.0.0 a.0.1 in let s = ap placing_in o.1 in omega arith in
      let by : Transition n (w + 1) w t m g (Write.entry v.index (described v.kept_phase false OrderKind.Fetch None)) (Some (record { number = v.t3; worker = v.index; kind = Kind.None })) (found_empty g v.index o.0 w v.t3) = Transition.finds_empty v.index v.kept_phase o.0 v.t3 a.0.0 k a.1 below o.1 aq o.2 f.1.saw pl in
      let y = guaranteed i by in
      record {
        write = Write.entry v.index (described v.kept_phase false OrderKind.Fetch None);
        point = Some (record { number = v.t3; worker = v.index; kind = Kind.None });
        ghost = found_empty g v.index o.0 w v.t3;
        by = Transition.finds_empty v.index v.kept_phase o.0 v.t3 a.0.0 k a.1 below o.1 aq o.2 f.1.saw pl;
        leaves = refl;
        after = (refl, (own-after n w t m g i crew v by f.0.order, record { asked = f.0.help.asked; kin = kin-stable n (w + 1) w m g _ _ c d y.chain y.entries w crew f.0.help }));
      }

  pub sound_empty : (v : Worker) (a : EmptyStage) → EmptyFacts m g w v a → Sound n w t m g (left_by m (access_at m.poster w v (Stage.Empty a))) (advance_at n t v (seen_by m (access_at m.poster w v (Stage.Empty a))) (Stage.Empty a))
  sound_empty v EmptyStage.T5 f = reads n w t m g _ (f.0, f.1, f.2, omega arith)
  sound_empty v EmptyStage.T6 f =
      reads n w t m g _ (cond_both (eqb m.tail v.tail) _ _ (Known m g n w)
      (λ e. let z = ap g.position (eqb-true _ _ e ∙ f.2) in (f.0, f.1, record { since = f.3; before = λ x j p k q. let a = d.fetches v.index x p k q in omega arith }))
      (λ e. (f.0.order, f.0.help)))
  sound_empty v EmptyStage.C1 f = reads n w t m g _ (cond_both (is_pending m v.index) _ _ (Known m g n w) (λ e. (f.0, f.1, f.2, λ _. e)) (λ e. (f.0.order, f.0.help)))
  sound_empty v EmptyStage.C2 f =
      reads n w t m g _ (cond_both (leb (phase_of m v.index) v.phase) _ _ (Known m g n w) (λ e. (f.0, f.1, f.2, λ j. (f.3 j, leb-true _ _ e))) (λ e. (f.0.order, f.0.help)))
  sound_empty v EmptyStage.T7 f = reads n w t m g _ (f.0, f.1, f.2, λ e. (f.3 e, refl))
  sound_empty v EmptyStage.T8 f = sound-T8 v f (eqb (count_of m v.index) v.saved) refl
