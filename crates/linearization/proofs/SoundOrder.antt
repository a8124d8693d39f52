-- The steps of an order's own are sound: scan, announcement, loop and end.
use Rattle.std.proofs.Common.{◌≡◌, ℕ, ◌+◌, ◌<◌, ◌≤◌, true, false, ◌&&◌, ltb, leb, ◌⊎◌, Some, None, Option, sym, refl, ap, ◌∙◌, inl, inr, arith}
use Rattle.std.proofs.lemmas.Bool.{cond_both, leb-false, ltb-false, and_parts, and_cases}
use Rattle.vocabulary.specs.declared.kind.Kind.{Kind}
use Rattle.promise.proofs.MapLaws.{put_same}
use Rattle.machine.specs.declared.entry.Entry.{Entry}
use Rattle.machine.specs.declared.entry.OrderKind.{OrderKind}
use Rattle.machine.specs.declared.stage.OrderStage.{OrderStage}
use Rattle.machine.specs.declared.stage.Stage.{Stage}
use Rattle.machine.specs.declared.worker.Worker.{Worker}
use Rattle.machine.specs.Accesses.{named, described, access_at}
use Rattle.machine.specs.Advances.{worked, answered, help_of, next_worker, scanned, after_recall}
use Rattle.machine.specs.HelpAdvances.{advance_at}
use Rattle.machine.specs.Memory.{Memory, seen_by, left_by, with_entry}
use Rattle.machine.specs.Registers.{goto, with_node}
use Rattle.machine.specs.States.{element_of}
use Rattle.linearization.proofs.Ghosts.{Ghost, Write, is_pending, kind_of, node_of, phase_of, count_of, set_out}
use Rattle.linearization.proofs.GhostLaws.{put2-tells}
use Rattle.linearization.proofs.MemoryInvariant.{ChainOf, EntriesOf, MemoryInvariant}
use Rattle.linearization.proofs.Sound.{Known, Sound, reads, ends, writes, to-next-worker, not_own}
use Rattle.linearization.proofs.SoundEnq.{own-after}
use Rattle.linearization.proofs.StageFacts.{OwnOrder, OrderFacts}
use Rattle.linearization.proofs.Transitions.{Transition}

module _ {T : Type 0} (n w t : ℕ) (m : Memory) (g : Ghost T) (i : MemoryInvariant m g) (crew : w < n) where
  abbrev c : ChainOf m g
  c = i.chain

  abbrev d : EntriesOf m g
  d = i.entries

  -- the scan reads one entry more; after the last, the phase is above all that were read
  sound-scan : (v : Worker) → OrderFacts m g n w v OrderStage.Scan → Sound n w t m g m (worked (scanned n v (phase_of m v.index)))
  sound-scan v f =
      reads n w t m g _ (cond_both (ltb (v.index + 1) n) _ _ (Known m g n w)
      (λ e. (f.0, record { over = λ j h. let a = d.helpers w j in grind (arith, f.1.over j); self = λ h. grind (arith, f.1.self) }))
      (λ e. let z = ltb-false (v.index + 1) n e in (f.0, record { over = λ j h. let a = d.helpers w j in grind (arith, f.1.over j); self = grind (arith, f.1.self) }, refl)))

  -- the worker announces its order
  sound-announce : (v : Worker) → OrderFacts m g n w v OrderStage.Announce → Sound n w t m g (with_entry m w (described v.phase true v.kind v.own)) (worked (goto v (Stage.Order OrderStage.Look)))
  sound-announce v f =
      let s : (with_entry m w (described v.phase true v.kind v.own)).entry w ≡ record { descriptor = described v.phase true v.kind v.own; count = count_of m w + 1 } = put_same _ _ _ in
      writes n w t m g (Write.entry w (described v.phase true v.kind v.own)) (worked (goto v (Stage.Order OrderStage.Look)))
      (Transition.announces v.phase v.kind v.own f.0 f.1.self f.1.over) (
        refl,
        record {
          phased = ap (λ (q : Entry). q.descriptor.phase) s;
          kinded = ap (λ (q : Entry). q.descriptor.kind) s;
          past = λ l. let z : ⊥ = omega (arith, f.2) in absurd z;
          post = λ e. let a = f.0.post e in record { names = ap (λ (q : Entry). q.descriptor.node) s ∙ (f.0.asks.post e).0; mine = a.mine; old = a.old; done = λ j. grind arith };
          fetch = λ x e j k. grind arith;
          busy = f.0.busy;
          post_served = λ e j. grind arith;
          fetch_served = λ e j. let z : ⊥ = grind arith in absurd z;
        },
      )

  -- the worker sets out to help the worker of the loop's index
  sets_out : (v : Worker) (k : OrderKind) → OwnOrder m g w v → is_pending m v.index ≡ true → kind_of m v.index ≡ k → Sound n w t m g m (worked (help_of k v))
  sets_out v k f p e =
      let by : Transition n (w + 1) w t m g Write.nothing None (set_out g v.index w (phase_of m w)) = Transition.sets_out v.index p in
      go k e (own-after n w t m g i crew v by f)
    where
      asked : v.phase ≤ (set_out g v.index w (phase_of m w)).helped v.index w
      asked = let a = f.phased in grind (arith, put2-tells)

      go : (k : OrderKind) → kind_of m v.index ≡ k → OwnOrder m (set_out g v.index w (phase_of m w)) w v → Sound n w t m g m (worked (help_of k v))
      go OrderKind.Post e h = record { write = Write.nothing; point = None; ghost = set_out g v.index w (phase_of m w); by = Transition.sets_out v.index p; leaves = refl; after = (refl, (h, record { asked = asked; kin = λ _ _. e })) }
      go OrderKind.Fetch e h = record { write = Write.nothing; point = None; ghost = set_out g v.index w (phase_of m w); by = Transition.sets_out v.index p; leaves = refl; after = (refl, (h, record { asked = asked; kin = λ _ _. e })) }

  -- a fetch reads its entry, and is answered with nothing or goes on to the node's successor
  sound-recall : (v : Worker) → OrderFacts m g n w v OrderStage.Recall → (o : Option ℕ) → node_of m w ≡ o → Sound n w t m g m (after_recall v o)
  sound-recall v f None e =
      ends n w t m g (answered v None) (
        refl,
        refl,
        record {
          silent = f.2;
          linked = λ y h j. let a = (d.behind y h).0 in let b = f.0.kinded ∙ f.1 in let q : kind_of m w ≡ OrderKind.Post = ap (kind_of m) (sym j) ∙ a in grind arith;
          passed = f.3;
          service = record { kind = Kind.None; element = None };
          served = (f.0.fetch_served f.1 f.2).nothing e;
          element = refl;
        },
      )
  sound-recall v f (Some x) e = reads n w t m g (with_node v (Some x) (Stage.Order OrderStage.Follow)) (f.0, f.1, f.2, f.3, e)

  pub sound-order : (v : Worker) (a : OrderStage) → OrderFacts m g n w v a → Sound n w t m g (left_by m (access_at m.poster w v (Stage.Order a))) (advance_at n t v (seen_by m (access_at m.poster w v (Stage.Order a))) (Stage.Order a))
  sound-order v OrderStage.Scan f = sound-scan v f
  sound-order v OrderStage.Announce f = sound-announce v f
  sound-order v OrderStage.Look f =
      cond_both (is_pending m v.index && leb (phase_of m v.index) v.phase) _ _ (λ x. Sound n w t m g m (worked x))
      (λ e. let a = and_parts _ _ e in sets_out v (kind_of m v.index) f a.0 refl)
      (λ e. reads n w t m g (next_worker n v) (to-next-worker n w m g c d crew v f (own-idle (and_cases _ _ e))))
    where
      own-idle : (is_pending m v.index ≡ false) ⊎ (leb (phase_of m v.index) v.phase ≡ false) → v.index ≡ w → is_pending m w ≡ false
      own-idle (inl a) j = ap (is_pending m) (sym j) ∙ a
      own-idle (inr a) j = not_own n w m g c d crew v f (leb-false _ _ a) j
  sound-order v OrderStage.Recall f = sound-recall v f (node_of m w) refl
  sound-order v OrderStage.Follow f =
      ends n w t m g (answered v (m.successor (named v.node))) (
        refl,
        refl,
        record {
          silent = f.2;
          linked = λ y h j. let a = (d.behind y h).0 in let b = f.0.kinded ∙ f.1 in let q : kind_of m w ≡ OrderKind.Post = ap (kind_of m) (sym j) ∙ a in grind arith;
          passed = f.3;
          service = record { kind = Kind.Fetch; element = element_of g.element (m.successor (named v.node)) };
          served = ((f.0.fetch_served f.1 f.2).something (named v.node) f.4).0;
          element = refl;
        },
      )
