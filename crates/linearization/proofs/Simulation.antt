-- The machine simulates the abstract line: under the invariant each step is a move of the line, and keeps the invariant.
use Rattle.std.proofs.Common.{◌≡◌, ℕ, ◌+◌, ◌<◌, ◌≤◌, Bool, true, false, ◌≢◌, ◌⊎◌, Some, None, Option, sym, refl, ap, ◌∙◌, subst, inl, inr, arith}
use Rattle.std.proofs.lemmas.Bool.{cases_lt}
use Rattle.promise.specs.AbstractLine.{Given, Open, Line, Ending, Move}
use Rattle.promise.specs.Events.{Point, Told, on_step}
use Rattle.promise.specs.declared.reply.Reply.{Reply}
use Rattle.promise.specs.Maps.{put}
use Rattle.promise.proofs.MapLaws.{put_same, put_other, put-tells}
use Rattle.machine.specs.declared.access.Outcome.{Outcome}
use Rattle.machine.specs.declared.stage.Stage.{Stage}
use Rattle.machine.specs.declared.worker.Worker.{Worker}
use Rattle.machine.specs.Accesses.{access_at, access_of}
use Rattle.machine.specs.Advances.{Advanced}
use Rattle.machine.specs.Calls.{idle_at}
use Rattle.machine.specs.HelpAdvances.{advance_at}
use Rattle.machine.specs.Memory.{Memory, seen_by, left_by}
use Rattle.machine.specs.States.{State, element_of, answer_by, reply_of, advanced, after_step, stepping, step_reply}
use Rattle.linearization.proofs.DeqStable.{stage-stable}
use Rattle.linearization.proofs.Ghosts.{Ghost, Write, written, line_of, service_in, served_by, placing_in, ended}
use Rattle.linearization.proofs.GhostLaws.{put_all, cases-option}
use Rattle.linearization.proofs.Guaranteed.{guaranteed, guaranteed-ended}
use Rattle.linearization.proofs.LineEffects.{kept_point, points_after, LineKept, kept-counted, kept-effect, kept-ended, quiet_effect, effect-frees, same-elements, effect_of}
use Rattle.linearization.proofs.MemoryInvariant.{MemoryInvariant}
use Rattle.linearization.proofs.Preserved.{preserved, preserved-ended}
use Rattle.linearization.proofs.Relies.{Rely}
use Rattle.linearization.proofs.Sound.{Known, Final, Sound}
use Rattle.linearization.proofs.SoundStep.{idle-is, stage-busy, sound}
use Rattle.linearization.proofs.StageFacts.{StageFacts}
use Rattle.linearization.proofs.Transitions.{Transition}

-- the whole invariant of a state: of what is shared, of each worker at its stage, of all who are not of the crew, and of
-- what the state keeps of elements, placings and points
pub record Invariant {T : Type 0} (s : State T) : Type 0 where
  pub ghost : Ghost T
  pub memory : MemoryInvariant s.memory ghost
  pub each : (w : ℕ) → w < s.crew → Known s.memory ghost s.crew w (s.worker w)
  pub outside : (w : ℕ) → s.crew ≤ w → ((s.worker w).stage ≡ Stage.Idle) × (ghost.order w ≡ None)
  pub elements : ghost.element ≡ s.element
  pub kept : LineKept s.placing s.point (line_of ghost s.steps)

-- the abstract line of a state
abbrev pub line_in : {T : Type 0} (s : State T) → Invariant s → Line T
line_in s i = line_of i.ghost s.steps

-- a move of the line, and the invariant after it
abbrev pub Simulated : {T : Type 0} (s : State T) → Invariant s → Told T → State T → Type 0
Simulated s i e s' = (i' : Invariant s') × Move true (line_in s i) e (line_in s' i')

-- what is known of the others stays known over a step of w
pub others : {T : Type 0} (n w : ℕ) (m : Memory) (g : Ghost T) (m' : Memory) (g' : Ghost T) (worker : ℕ → Worker) → MemoryInvariant m g → Rely n w w m g m' g' → ((j : ℕ) → j ≢ w → j < n → Known m g n j (worker j)) → (j : ℕ) → j ≢ w → j < n → Known m' g' n j (worker j)
others n w m g m' g' worker i y each j o l = stage-stable n w w m g m' g' i.chain i.entries y.chain y.entries y.orders j o o l (worker j) (worker j).stage (each j o l)

-- a worker's step, as if it were at the stage a
abbrev result_at : {T : Type 0} → State T → ℕ → Stage → Advanced
result_at s w a = advance_at s.crew (s.steps + 1) (s.worker w) (seen_by s.memory (access_at s.memory.poster w (s.worker w) a)) a

-- an idle step changes nothing
idle-step : {T : Type 0} (s : State T) (w : ℕ) → (s.worker w).stage ≡ Stage.Idle → (stepping s w ≡ s) × (step_reply s w ≡ Reply.Idle)
idle-step s w e = (ap (λ (a : Stage). after_step s w (result_at s w a) (result_at s w a).outcome) e, ap (λ (a : Stage). reply_of s w (result_at s w a).outcome) e)

module _ {T : Type 0} (s : State T) (i : Invariant s) (w : ℕ) (turn : Bool) where
  abbrev g : Ghost T
  g = i.ghost

  abbrev m : Memory
  m = s.memory

  step-idle : (s.worker w).stage ≡ Stage.Idle → g.order w ≡ None → Simulated s i (on_step turn w (step_reply s w)) (stepping s w)
  step-idle e free =
      let a = idle-step s w e in
      subst (λ s'. Simulated s i (on_step turn w (step_reply s w)) s') (sym a.0) (subst (λ r. Simulated s i (on_step turn w r) s) (sym a.1) (i, Move.idles w turn free))

  module _ (crew : w < s.crew) (o : Open T) (busy : g.order w ≡ Some o) where
    -- the state after a step that wrote e and told the point p, with the worker x
    abbrev state_after : Write → Option Point → Worker → State T
    state_after e p x = record { crew = s.crew; steps = s.steps + 1; memory = written m e; worker = put s.worker w x; placing = s.placing; point = points_after p s.point; element = s.element }

    others-first : (j : ℕ) → j ≢ w → j < s.crew → Known m g s.crew j (s.worker j)
    others-first j n l = i.each j l

    outside-after : (x : Worker) (order : ℕ → Option (Open T)) → ((j : ℕ) → g.order j ≡ None → order j ≡ None) → (j : ℕ) → s.crew ≤ j → ((put s.worker w x j).stage ≡ Stage.Idle) × (order j ≡ None)
    outside-after x order frees j l = let a = i.outside j l in (ap (λ (v : Worker). v.stage) (put_other s.worker w x j (λ q. omega arith)) ∙ a.0, frees j a.1)

    goes_on : (e : Write) (p : Option Point) (g' : Ghost T) (x : Worker) → Transition s.crew w w (s.steps + 1) m g e p g' → g'.element ≡ g.element → Known (written m e) g' s.crew w x → Simulated s i (Told.stepped w turn p None) (state_after e p x)
    goes_on e p g' x by same f =
        let effect = effect_of s.crew w s.steps m g i.kept.marks by in (
          record {
            ghost = g';
            memory = preserved i.memory by;
            each = put_all (λ j v. j < s.crew → Known (written m e) g' s.crew j v) s.worker w x (λ _. f) (others s.crew w m g _ g' s.worker i.memory (guaranteed i.memory by) others-first);
            outside = outside-after x g'.order (effect-frees effect);
            elements = same ∙ i.elements;
            kept = kept-effect s.placing s.point _ (kept-counted s.placing s.point _ i.kept) w effect;
          },
          Move.steps w turn o busy effect Ending.goes_on,
        )

    -- the order is answered: it is served, and the answer tells what the line has of it
    answers : (e : Write) (g' : Ghost T) (x : Worker) (node : Option ℕ) → Transition s.crew w w (s.steps + 1) m g e None g' → g'.element ≡ g.element → x.stage ≡ Stage.Idle → Final (written m e) g' w node
        → Simulated s i (on_step turn w (answer_by w (s.placing w) (s.steps + 1) (element_of s.element node) (s.point w))) (state_after e None x)
    answers e g' x node by same idle f = served o.given refl
      where
        order_same : g'.order w ≡ Some o
        order_same = ap (λ f. f w) (quiet_effect (effect_of s.crew w s.steps m g i.kept.marks by)) ∙ busy

        service-is : served_by o.given ≡ Some f.service
        service-is = sym (ap service_in order_same) ∙ f.served

        served : (q : Option (Given T)) → o.given ≡ q → Simulated s i (on_step turn w (answer_by w (s.placing w) (s.steps + 1) (element_of s.element node) (s.point w))) (state_after e None x)
        served None h = let z = sym (ap served_by h) ∙ service-is in let y : ⊥ = grind arith in absurd y
        served (Some v) h =
            let effect = effect_of s.crew w s.steps m g i.kept.marks by in
            let k = i.kept.orders w o busy in
            let z = sym (ap served_by h) ∙ service-is in
            let el : element_of s.element node ≡ v.element = ap (λ q. element_of q node) (sym (same ∙ i.elements)) ∙ f.element ∙ (let y : f.service.element ≡ v.element = grind arith in y) in
            let pt : s.point w ≡ kept_point (Some v) = k.pointed ∙ ap kept_point h in
            let reply : answer_by w (s.placing w) (s.steps + 1) (element_of s.element node) (s.point w) ≡ Reply.Answered w v.kind o.placing v.number (s.steps + 1) v.element = rw (pt, k.placed, el) refl in
            let inv = preserved i.memory by in
            subst (λ r. Simulated s i (on_step turn w r) (state_after e None x)) (sym reply) (
              record {
                ghost = ended g' w;
                memory = preserved-ended inv w f.silent;
                each = put_all (λ j v. j < s.crew → Known (written m e) (ended g' w) s.crew j v) s.worker w x
                    (λ _. subst (StageFacts (written m e) (ended g' w) s.crew w x) (sym idle) (record { silent = f.silent; linked = f.linked; passed = f.passed; free = put_same _ _ _ }))
                    (others s.crew w _ g' _ (ended g' w) s.worker inv (guaranteed-ended inv s.crew w f.silent) (others s.crew w m g _ g' s.worker i.memory (guaranteed i.memory by) others-first));
                outside = outside-after x (ended g' w).order (λ j q. let a = effect-frees effect j q in grind (arith, put-tells));
                elements = same ∙ i.elements;
                kept = kept-ended s.placing s.point _ (kept-effect s.placing s.point _ (kept-counted s.placing s.point _ i.kept) w effect) w;
              },
              Move.steps w turn o busy effect (Ending.answers o v order_same h (let a = k.given v h in omega arith)),
            )

    -- the state after a counted step, with the memory m' that it left
    abbrev state_left : Memory → Option Point → Worker → State T
    state_left m' p x = record { crew = s.crew; steps = s.steps + 1; memory = m'; worker = put s.worker w x; placing = s.placing; point = points_after p s.point; element = s.element }

    step-result : (m' : Memory) (x : Worker) (q : Outcome) → m' ≡ left_by m (access_of m.poster w (s.worker w)) → Sound s.crew w (s.steps + 1) m g m' (record { worker = x; outcome = q }) → Simulated s i (on_step turn w (reply_of s w q)) (after_step s w (record { worker = x; outcome = q }) q)
    step-result m' x Outcome.Idle is so = absurd so.after
    step-result m' x Outcome.Worked is so =
        subst (λ m'. Simulated s i (Told.stepped w turn None None) (state_left m' None x)) (sym so.leaves ∙ is)
        (subst (λ p. Simulated s i (Told.stepped w turn p None) (state_after so.write p x)) so.after.0 (goes_on so.write so.point so.ghost x so.by (same-elements so.by) so.after.1))
    step-result m' x (Outcome.Point number k kind) is so =
        subst (λ m'. Simulated s i (Told.stepped w turn (Some (record { number = number; worker = k; kind = kind })) None) (state_left m' (Some (record { number = number; worker = k; kind = kind })) x)) (sym so.leaves ∙ is)
        (subst (λ p. Simulated s i (Told.stepped w turn p None) (state_after so.write p x)) so.after.0 (goes_on so.write so.point so.ghost x so.by (same-elements so.by) so.after.1))
    step-result m' x (Outcome.Answered node) is so =
        subst (λ m'. Simulated s i (on_step turn w (answer_by w (s.placing w) (s.steps + 1) (element_of s.element node) (s.point w))) (state_left m' None x)) (sym so.leaves ∙ is)
        (answers so.write so.ghost x node (subst (λ p. Transition s.crew w w (s.steps + 1) m g so.write p so.ghost) so.after.0 so.by) (same-elements so.by) so.after.1 so.after.2)

  -- no order was placed after the steps counted
  placed-before : (k : ℕ) → placing_in (g.order k) < s.steps + 1
  placed-before k = go (g.order k) refl
    where
      go : (q : Option (Open T)) → g.order k ≡ q → placing_in q < s.steps + 1
      go None e = omega arith
      go (Some o) e = let a = (i.kept.orders k o e).before in omega arith

  step-of-crew : w < s.crew → (b : Bool) → idle_at (s.worker w).stage ≡ b → Simulated s i (on_step turn w (step_reply s w)) (stepping s w)
  step-of-crew crew true e =
      let h = idle-is (s.worker w).stage e in
      step-idle h (subst (StageFacts m g s.crew w (s.worker w)) h (i.each w crew)).free
  step-of-crew crew false e = go (cases-option (g.order w))
    where
      go : (g.order w ≡ None) ⊎ ((o : Open T) × (g.order w ≡ Some o)) → Simulated s i (on_step turn w (step_reply s w)) (stepping s w)
      go (inl h) = absurd (stage-busy s.crew w m g (s.worker w) (s.worker w).stage e (i.each w crew) h)
      go (inr h) = step-result crew h.0 h.1 _ (advanced s w).worker (advanced s w).outcome refl (sound s.crew w m g (s.steps + 1) i.memory crew placed-before (s.worker w) (s.worker w).stage e (i.each w crew))

  -- a step of any worker, of the crew or not
  pub step-simulated : Simulated s i (on_step turn w (step_reply s w)) (stepping s w)
  step-simulated = go (cases_lt w s.crew)
    where
      go : (w < s.crew) ⊎ (s.crew ≤ w) → Simulated s i (on_step turn w (step_reply s w)) (stepping s w)
      go (inl l) = step-of-crew l (idle_at (s.worker w).stage) refl
      go (inr l) = let a = i.outside w l in step-idle a.0 a.1
