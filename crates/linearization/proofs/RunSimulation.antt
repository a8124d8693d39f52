-- Every call on a run is a move of the abstract line, refused ones too; so the events of every list of calls are those of
-- a sequence of moves, and what closing would leave is the line's queue. Hence order by points holds of the machine.
use Rattle.std.proofs.Common.{◌≡◌, ℕ, ◌+◌, ◌<◌, ◌≤◌, Bool, true, false, not, eqb, ltb, ◌⊎◌, List, [], ◌∷◌, Some, None, Option, sym, refl, ap, ◌∙◌, subst, inl, inr, arith}
use Rattle.std.proofs.lemmas.Bool.{cases_lt, ltb-true, not-false, eq-eqb, cond-true}
use Rattle.vocabulary.specs.declared.refusal.Refusal.{Refusal}
use Rattle.promise.specs.AbstractLine.{Line, Move, Moves}
use Rattle.promise.specs.Books.{book_of}
use Rattle.promise.specs.Events.{Told, told, on_step}
use Rattle.promise.specs.Order.{InOrder}
use Rattle.promise.specs.declared.call.Call.{Call}
use Rattle.promise.specs.Maps.{put}
use Rattle.promise.proofs.LineKeeps.{line-keeps-order}
use Rattle.promise.proofs.MapLaws.{put_same, put_other, put-tells}
use Rattle.machine.specs.declared.access.Outcome.{Outcome}
use Rattle.machine.specs.declared.stage.Stage.{Stage}
use Rattle.machine.specs.Calls.{Run, Played, opened_run, lowest_free, busy, unless, post_refusal, fetch_refusal, step_refusal, turn_refusal, with_state, or_else, accepted, stepped, played, elements_of, chain_from, untaken, left}
use Rattle.machine.specs.States.{posting, fetching, after_step, stepping, advanced, step_reply}
use Rattle.linearization.specs.Transcripts.{Asking, transcript, MachineKeepsOrder}
use Rattle.linearization.proofs.Ghosts.{Ghost, Holds}
use Rattle.linearization.proofs.Leaves.{leaves-queue}
use Rattle.linearization.proofs.Placed.{post-simulated, fetch-simulated}
use Rattle.linearization.proofs.Simulation.{Invariant, line_in, step-simulated}
use Rattle.linearization.proofs.SoundStep.{idle-is}

-- the invariant of a run: that of its state, and that the nodes past those used are fresh
pub record RunInvariant {T : Type 0} (r : Run T) : Type 0 where
  pub state : Invariant r.state
  pub fresh : (j : ℕ) → r.used < j → r.state.element j ≡ None

abbrev pub line_of_run : {T : Type 0} (r : Run T) → RunInvariant r → Line T
line_of_run r i = line_in r.state i.state

-- a call as it was played is a move of the line, and keeps the invariant
abbrev CallSimulated : {T : Type 0} (r : Run T) → RunInvariant r → Played T → Type 0
CallSimulated r i p = (i' : RunInvariant p.run) × Move true (line_of_run r i) (told p.event) (line_of_run p.run i')

-- a call is not refused: none of its tests failed
unless-none : (b : Bool) (n : Refusal) (rest : Option Refusal) → unless b n rest ≡ None → (b ≡ false) × (rest ≡ None)
unless-none true n rest e = let z : ⊥ = grind arith in absurd z
unless-none false n rest e = (refl, e)

module _ {T : Type 0} (r : Run T) (i : RunInvariant r) where
  -- a worker of the crew without an order
  free-worker : (w : ℕ) → not (ltb w r.state.crew) ≡ false → busy r.state w ≡ false → (w < r.state.crew) × ((r.state.worker w).stage ≡ Stage.Idle)
  free-worker w a b = (ltb-true _ _ (not-false _ a), idle-is _ (not-false _ b))

  post-played : (w : ℕ) (x : T) (q : Option Refusal) → post_refusal r w ≡ q → CallSimulated r i (or_else r (Call.Post w x) q (accepted (record { state = posting r.state w x (lowest_free r); nodes = r.nodes; used = r.used + 1 }) (Call.Post w x)))
  post-played w x (Some n) e = (i, Move.refuses n)
  post-played w x None e =
      let a = unless-none _ _ _ e in
      let b = unless-none _ _ _ a.1 in
      let f = free-worker w a.0 b.0 in
      let s = post-simulated r.state i.state w f.0 f.1 x (lowest_free r) (λ z. omega arith) (i.fresh (lowest_free r) (omega arith)) in
      (record { state = s.0; fresh = λ j l. put_other r.state.element (lowest_free r) (Some x) j (λ z. omega arith) ∙ i.fresh j (omega arith) }, s.1)

  fetch-played : (w : ℕ) (q : Option Refusal) → fetch_refusal r w ≡ q → CallSimulated r i (or_else r (Call.Fetch w) q (accepted (with_state r (fetching r.state w)) (Call.Fetch w)))
  fetch-played w (Some n) e = (i, Move.refuses n)
  fetch-played w None e =
      let a = unless-none _ _ _ e in
      let b = unless-none _ _ _ a.1 in
      let f = free-worker w a.0 b.0 in
      let s = fetch-simulated r.state i.state w f.0 f.1 in
      (record { state = s.0; fresh = i.fresh }, s.1)

  -- a step leaves the elements
  same-elements : (w : ℕ) → (stepping r.state w).element ≡ r.state.element
  same-elements w = go (advanced r.state w).outcome
    where
      go : (o : Outcome) → (after_step r.state w (advanced r.state w) o).element ≡ r.state.element
      go Outcome.Idle = refl
      go Outcome.Worked = refl
      go (Outcome.Point number k kind) = refl
      go (Outcome.Answered x) = refl

  step-fresh : (w j : ℕ) → r.used < j → (stepping r.state w).element j ≡ None
  step-fresh w j l = ap (λ f. f j) (same-elements w) ∙ i.fresh j l

  step-played : (w : ℕ) (q : Option Refusal) → CallSimulated r i (or_else r (Call.Step w) q (stepped r (Call.Step w) w))
  step-played w (Some n) = (i, Move.refuses n)
  step-played w None =
      let s = step-simulated r.state i.state w false in
      (record { state = s.0; fresh = step-fresh w }, subst (λ e. Move true (line_of_run r i) e (line_in (stepping r.state w) s.0)) (sym (cond-true (eqb w w) (on_step false w (step_reply r.state w)) Told.misfit (eq-eqb w w refl))) s.1)

  turn-played : (v : ℕ) (q : Option Refusal) → CallSimulated r i (or_else r Call.Turn q (stepped r Call.Turn v))
  turn-played v (Some n) = (i, Move.refuses n)
  turn-played v None = let s = step-simulated r.state i.state v true in (record { state = s.0; fresh = step-fresh v }, s.1)

  call-simulated : (c v : ℕ) (call : Call T) → CallSimulated r i (played r c v call)
  call-simulated c v (Call.Post w x) = post-played w x (post_refusal r w) refl
  call-simulated c v (Call.Fetch w) = fetch-played w (fetch_refusal r w) refl
  call-simulated c v (Call.Step w) = step-played w (step_refusal r w)
  call-simulated c v Call.Turn = turn-played v (turn_refusal r c)

  -- closing would leave the line's queue
  left-queue : left r ≡ (line_of_run r i).queue
  left-queue =
      let g = i.state.ghost in
      ap (λ f. elements_of f (untaken (r.state.memory.taker r.state.memory.head) (chain_from r.state.memory.successor r.used (r.state.memory.successor r.state.memory.head)))) (sym i.state.elements)
      ∙ leaves-queue r.state.memory g i.state.memory.chain i.state.memory.orders r.used (λ x l. go x l (cases_lt r.used x))
    where
      go : (x : ℕ) → 0 < i.state.ghost.position x → (r.used < x) ⊎ (x ≤ r.used) → x ≤ r.used
      go x l (inr h) = h
      go x l (inl h) =
          let a = i.state.memory.chain.known x l in
          let b = i.state.memory.orders.supply x (λ z. omega arith) (ap (λ f. f x) i.state.elements ∙ i.fresh x h) in
          let z : ⊥ = grind arith in
          absurd z

-- a run as it is opened
abbrev opened_ghost : {T : Type 0} → Ghost T
opened_ghost = record { position = put (λ _. 0) 0 1; node_at = λ _. 0; last = 1; used = put (λ _. false) 0 true; element = λ _. None; helped = λ _ _. 0; queue = []; order = λ _. None; saw = λ _. None }

opened-simulates : {T : Type 0} (n nodes : ℕ) → RunInvariant (opened_run {T = T} n nodes)
opened-simulates n nodes =
    record {
      state =
          record {
            ghost = opened_ghost;
            memory =
                record {
                  chain =
                      record {
                        root = put_same _ _ _;
                        short = λ x. grind (arith, put-tells);
                        inverse = λ x h. grind (arith, put-tells);
                        filled = λ j a b. grind (arith, put-tells);
                        known = λ x h. grind (arith, put-tells);
                        next = λ x y e. let z : ⊥ = grind arith in absurd z;
                        end = λ x h e. grind (arith, put-tells);
                        tail_in = grind (arith, put-tells);
                        tail_near = grind (arith, put-tells);
                        head_in = grind (arith, put-tells);
                        head_low = omega arith;
                        passed = λ x h l e. grind (arith, put-tells);
                        taker_low = λ x k e. let z : ⊥ = grind arith in absurd z;
                      };
                  entries =
                      record {
                        claimed = λ k e. let z : ⊥ = grind arith in absurd z;
                        behind = λ y h. let z : ⊥ = grind (arith, put-tells) in absurd z;
                        posts = λ k x p q e. let z : ⊥ = grind arith in absurd z;
                        post_node = λ k p q e. grind arith;
                        fetches = λ k x p q e. let z : ⊥ = grind arith in absurd z;
                        helpers = λ k j. omega arith;
                      };
                  orders =
                      record {
                        busy = λ k p e. grind arith;
                        asks_post = λ k x p q e. grind arith;
                        asks_fetch = λ k p q. grind arith;
                        post_waits = λ k x p q e h. refl;
                        post_served = λ k x p q e h. grind arith;
                        fetch_waits = λ k p q e. refl;
                        fetch_served = λ k p e. grind arith;
                        held = rw put_same Holds.none;
                        fresh = λ j e. refl;
                        supply = λ j h e. put_other _ _ _ j h;
                      };
                };
            each = λ w l. record { silent = refl; linked = λ y h e. grind (arith, put-tells); passed = λ x e. grind arith; free = refl };
            outside = λ w l. (refl, refl);
            elements = refl;
            kept = record { orders = λ w o e. let z : ⊥ = grind arith in absurd z; marks = λ w e h. let z : ⊥ = grind arith in absurd z };
          };
      fresh = λ j l. refl;
    }

-- the events of a list of calls are moves of the line
transcript-moves : {T : Type 0} (cs : List (Asking T)) (r : Run T) (i : RunInvariant r) → (i' : RunInvariant (transcript r cs).run) × Moves true (line_of_run r i) (transcript r cs).events (line_of_run (transcript r cs).run i')
transcript-moves [] r i = (i, Moves.done)
transcript-moves (c ∷ cs) r i =
    let a = call-simulated r i c.crew c.named c.call in
    let b = transcript-moves cs (played r c.crew c.named c.call).run a.0 in
    (b.0, Moves.more a.1 b.1)

pub machine-keeps-order : {T : Type 0} → MachineKeepsOrder T
unfolding opened-simulates
machine-keeps-order {T} n nodes cs =
    let a = transcript-moves cs (opened_run n nodes) (opened-simulates n nodes) in
    let k = line-keeps-order true _ _ a.1 in
    (k.0, subst (InOrder true (book_of (transcript (opened_run n nodes) cs).events)) (sym (left-queue (transcript (opened_run n nodes) cs).run a.0)) k.1)
