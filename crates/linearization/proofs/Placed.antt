-- Placing an order is a move of the abstract line, and keeps the invariant. A post may take any fresh node.
use Rattle.std.proofs.Common.{◌≡◌, ℕ, ◌<◌, ◌≤◌, false, ◌≢◌, Some, None, Option, sym, refl, ap, ◌∙◌, subst, arith}
use Rattle.promise.specs.AbstractLine.{Open, Move}
use Rattle.promise.specs.Events.{Asked, Told}
use Rattle.promise.specs.Maps.{put}
use Rattle.promise.proofs.MapLaws.{put_same, put_other, put-tells}
use Rattle.machine.specs.declared.entry.OrderKind.{OrderKind}
use Rattle.machine.specs.declared.stage.OrderStage.{OrderStage}
use Rattle.machine.specs.declared.stage.Stage.{Stage}
use Rattle.machine.specs.declared.worker.Worker.{Worker}
use Rattle.machine.specs.Memory.{Memory}
use Rattle.machine.specs.States.{State, beginning, posting, fetching}
use Rattle.linearization.proofs.Ghosts.{Ghost, with_poster, service_in, asked_in, as_post, placed, supplied}
use Rattle.linearization.proofs.GhostLaws.{put_all}
use Rattle.linearization.proofs.Guaranteed.{guaranteed-placed, guaranteed-supplied}
use Rattle.linearization.proofs.LineEffects.{kept-placed}
use Rattle.linearization.proofs.Preserved.{preserved-placed, preserved-supplied}
use Rattle.linearization.proofs.Simulation.{Invariant, Simulated, others}
use Rattle.linearization.proofs.Sound.{Known}
use Rattle.linearization.proofs.StageFacts.{Quiescent, Scanning, StageFacts}
use Rattle.linearization.proofs.Transitions.{Unannounced}

-- a scan that has read nothing
scan_begins : {T : Type 0} (m : Memory) (g : Ghost T) (w q : ℕ) → Scanning m g w 0 q
scan_begins m g w q = record { over = λ j h. let z : ⊥ = omega arith in absurd z; self = λ h. let z : ⊥ = omega arith in absurd z }

module _ {T : Type 0} (s : State T) (i : Invariant s) (w : ℕ) (crew : w < s.crew) (idle : (s.worker w).stage ≡ Stage.Idle) where
  abbrev g : Ghost T
  g = i.ghost

  abbrev m : Memory
  m = s.memory

  quiescent : Quiescent m g w
  quiescent = subst (StageFacts m g s.crew w (s.worker w)) idle (i.each w crew)

  others-first : (j : ℕ) → j ≢ w → j < s.crew → Known m g s.crew j (s.worker j)
  others-first j n l = i.each j l

  outside-placed : (x : Worker) (o : Option (Open T)) (j : ℕ) → s.crew ≤ j → ((put s.worker w x j).stage ≡ Stage.Idle) × (put g.order w o j ≡ None)
  outside-placed x o j l =
      let a = i.outside j l in
      let n : j ≢ w = λ q. omega arith in
      (ap (λ (v : Worker). v.stage) (put_other s.worker w x j n) ∙ a.0, put_other g.order w o j n ∙ a.1)

  pub fetch-simulated : Simulated s i (Told.placed w Asked.fetch) (fetching s w)
  fetch-simulated =
      let g' : Ghost T = placed g w Asked.fetch s.steps in
      let v : Worker = beginning (Stage.Order OrderStage.Scan) OrderKind.Fetch None in
      let q = quiescent in (
        record {
          ghost = g';
          memory = preserved-placed i.memory w Asked.fetch s.steps q.silent;
          each = put_all (λ j x. j < s.crew → Known m g' s.crew j x) s.worker w v
              (λ _. (
                record {
                  silent = q.silent;
                  linked = q.linked;
                  passed = q.passed;
                  post = λ e. let z : ⊥ = grind arith in absurd z;
                  busy = λ e. let z = sym (put_same g.order w (Some (record { asked = Asked.fetch; placing = s.steps; given = None }))) ∙ e in grind arith;
                  asks = record { post = λ e. let z : ⊥ = grind arith in absurd z; fetch = λ _. (refl, ap asked_in (put_same _ _ _)) };
                  waits = ap service_in (put_same _ _ _);
                },
                scan_begins m g' w 0,
              ))
              (others s.crew w m g m g' s.worker i.memory (guaranteed-placed i.memory s.crew w Asked.fetch s.steps q.silent) others-first);
          outside = outside-placed v _;
          elements = i.elements;
          kept = kept-placed s.placing s.point _ i.kept w Asked.fetch;
        },
        Move.places w Asked.fetch q.free,
      )

  -- the post of y takes the fresh node j
  module _ (y : T) (j : ℕ) (nonzero : j ≢ 0) (free : s.element j ≡ None) where
    fresh : g.used j ≡ false
    fresh = i.memory.orders.supply j nonzero (ap (λ f. f j) i.elements ∙ free)

    abbrev g_supplied : Ghost T
    g_supplied = supplied g j y

    abbrev g_placed : Ghost T
    g_placed = placed (supplied g j y) w (Asked.post y) s.steps

    unannounced : Unannounced (with_poster m j w) g_placed w OrderKind.Post (Some j)
    unannounced =
        let q = quiescent in
        let f = fresh in
        record {
          silent = q.silent;
          linked = λ x e. let a = q.linked x e in let b = i.memory.chain.known x (omega arith) in grind (arith, put-tells);
          passed = q.passed;
          post = λ _. record { mine = put_same _ _ _; old = put_same _ _ _; loose = grind (arith, i.memory.chain.known j) };
          busy = λ e. let z = sym (put_same g.order w (Some (record { asked = Asked.post y; placing = s.steps; given = None }))) ∙ e in grind arith;
          asks = record { post = λ _. (refl, ap asked_in (put_same _ _ _) ∙ sym (ap as_post (put_same g.element j (Some y)))); fetch = λ e. let z : ⊥ = grind arith in absurd z };
          waits = ap service_in (put_same _ _ _);
        }

    pub post-simulated : Simulated s i (Told.placed w (Asked.post y)) (posting s w y j)
    post-simulated =
        let v : Worker = beginning (Stage.Order OrderStage.Scan) OrderKind.Post (Some j) in
        let q = quiescent in
        let first = preserved-supplied i.memory w j y nonzero fresh in (
          record {
            ghost = g_placed;
            memory = preserved-placed first w (Asked.post y) s.steps q.silent;
            each = put_all (λ k x. k < s.crew → Known (with_poster m j w) g_placed s.crew k x) s.worker w v (λ _. (unannounced, scan_begins (with_poster m j w) g_placed w 0))
                (others s.crew w (with_poster m j w) g_supplied (with_poster m j w) g_placed s.worker first (guaranteed-placed first s.crew w (Asked.post y) s.steps q.silent)
                (others s.crew w m g (with_poster m j w) g_supplied s.worker i.memory (guaranteed-supplied i.memory s.crew w w w j y fresh) others-first));
            outside = outside-placed v _;
            elements = ap (λ f. put f j (Some y)) i.elements;
            kept = kept-placed s.placing s.point _ i.kept w (Asked.post y);
          },
          Move.places w (Asked.post y) q.free,
        )
