-- A step of a worker is sound: it is a transition, and what has to be known at the worker's next stage holds, or its order
-- is at its end. Here: what that says, and where a worker goes when it has helped somebody, or has finished.
use Rattle.std.proofs.Common.{◌≡◌, ℕ, ◌+◌, ◌<◌, ◌≤◌, Bool, true, false, ltb, ◌≢◌, Some, None, Option, sym, refl, ap, ◌∙◌, arith}
use Rattle.std.proofs.lemmas.Bool.{cond_both, eqb-true, eqb-false, ltb-false, false≢true}
use Rattle.vocabulary.specs.declared.kind.Kind.{Kind}
use Rattle.promise.specs.AbstractLine.{Open}
use Rattle.promise.specs.Events.{Asked, Point}
use Rattle.machine.specs.declared.access.Outcome.{Outcome}
use Rattle.machine.specs.declared.entry.OrderKind.{OrderKind}
use Rattle.machine.specs.declared.stage.Return.{Return}
use Rattle.machine.specs.declared.stage.Stage.{Stage}
use Rattle.machine.specs.declared.worker.Worker.{Worker}
use Rattle.machine.specs.Accesses.{named}
use Rattle.machine.specs.Advances.{Advanced, worked, same_node, is_node, last_of, next_worker, finished_enq, finished_deq}
use Rattle.machine.specs.Memory.{Memory}
use Rattle.machine.specs.Registers.{goto}
use Rattle.machine.specs.States.{element_of}
use Rattle.linearization.proofs.Ghosts.{Ghost, Write, written, is_pending, kind_of, node_of, phase_of, Service, service_in, served_by, asked_in, as_post}
use Rattle.linearization.proofs.MemoryInvariant.{ChainOf, EntriesOf}
use Rattle.linearization.proofs.StageFacts.{HelpingIn, BringsTail, BringsHead, WasTail, WasHead, FinishingDeq, OwnOrder, InFinishEnq, StageFacts}
use Rattle.linearization.proofs.Transitions.{Linked, Passed, Transition}

-- of an order whose last step is made: it is served, and its answer tells the element of the node
pub record Final {T : Type 0} (m : Memory) (g : Ghost T) (w : ℕ) (node : Option ℕ) : Type 0 where
  pub silent : is_pending m w ≡ false
  pub linked : Linked m g w
  pub passed : Passed m g w
  pub service : Service T
  pub served : service_in (g.order w) ≡ Some service
  pub element : element_of g.element node ≡ service.element

-- what is known at the stage of a worker
abbrev pub Known : {T : Type 0} → Memory → Ghost T → ℕ → ℕ → Worker → Type 0
Known m g n w v = StageFacts m g n w v v.stage

-- what is known after a step, by its outcome and the point that its transition tells
abbrev pub After : {T : Type 0} → Memory → Ghost T → ℕ → ℕ → Option Point → Worker → Outcome → Type 0
After m g n w p v Outcome.Idle = ⊥
After m g n w p v Outcome.Worked = (p ≡ None) × Known m g n w v
After m g n w p v (Outcome.Point number k kind) = (p ≡ Some (record { number = number; worker = k; kind = kind })) × Known m g n w v
After m g n w p v (Outcome.Answered node) = (p ≡ None) × (v.stage ≡ Stage.Idle) × Final m g w node

-- a step of w, numbered t, leaves the memory m' and the worker as a says
pub record Sound {T : Type 0} (n w t : ℕ) (m : Memory) (g : Ghost T) (m' : Memory) (a : Advanced) : Type 0 where
  pub write : Write
  pub point : Option Point
  pub ghost : Ghost T
  pub by : Transition n w w t m g write point ghost
  pub leaves : m' ≡ written m write
  pub after : After (written m write) ghost n w point a.worker a.outcome

-- a step that only reads
pub reads : {T : Type 0} (n w t : ℕ) (m : Memory) (g : Ghost T) (v : Worker) → Known m g n w v → Sound n w t m g m (worked v)
reads n w t m g v f = record { write = Write.nothing; point = None; ghost = g; by = Transition.nothing; leaves = refl; after = (refl, f) }

-- a step that only reads, and may end the order
pub ends : {T : Type 0} (n w t : ℕ) (m : Memory) (g : Ghost T) (a : Advanced) → After m g n w None a.worker a.outcome → Sound n w t m g m a
ends n w t m g a f = record { write = Write.nothing; point = None; ghost = g; by = Transition.nothing; leaves = refl; after = f }

-- a step that writes and tells no point
pub writes : {T : Type 0} (n w t : ℕ) (m : Memory) (g : Ghost T) (e : Write) (a : Advanced) → Transition n w w t m g e None g → After (written m e) g n w None a.worker a.outcome → Sound n w t m g (written m e) a
writes n w t m g e a by f = record { write = e; point = None; ghost = g; by = by; leaves = refl; after = f }

pub same-node : (o x : Option ℕ) (y : ℕ) → x ≡ Some y → same_node o x ≡ true → o ≡ Some y
same-node o None y e h = absurd (false≢true h)
same-node None (Some x) y e h = absurd (false≢true h)
same-node (Some z) (Some x) y e h = let a = eqb-true z x h in let b : x ≡ y = cc in ap {B = Option ℕ} Some (a ∙ b)

pub other-node : (o x : Option ℕ) (y : ℕ) → x ≡ Some y → same_node o x ≡ false → o ≢ Some y
other-node o None y e h = let z : ◌≡◌ {A = ℕ} 0 1 = cc in let f : ⊥ = omega arith in absurd f
other-node None (Some x) y e h = λ i. let z : ◌≡◌ {A = ℕ} 0 1 = cc in omega arith
other-node (Some z) (Some x) y e h = λ i. let a : z ≡ x = cc in eqb-false z x h a

pub is-node : (o : Option ℕ) (x : ℕ) → is_node o x ≡ true → o ≡ Some x
is-node None x e = absurd (false≢true e)
is-node (Some z) x e = ap {B = Option ℕ} Some (eqb-true z x e)

pub not-node : (o : Option ℕ) (x : ℕ) → is_node o x ≡ false → o ≢ Some x
not-node None x e h = let z : ◌≡◌ {A = ℕ} 0 1 = cc in omega arith
not-node (Some z) x e h = let y : z ≡ x = cc in eqb-false z x e y

-- an order that waits is there, and has no point
pub waiting : {T : Type 0} (q : Option (Open T)) → q ≢ None → service_in q ≡ None → (o : Open T) × (q ≡ Some o) × (o.given ≡ None)
waiting None b e = absurd (b refl)
waiting (Some o) b e = (o, refl, go o.given refl)
  where
    go : (v : _) → o.given ≡ v → o.given ≡ None
    go None h = h
    go (Some v) h = let z : served_by o.given ≡ served_by (Some v) = ap served_by h in grind arith

-- what an order asks
pub asked-post : {T : Type 0} (q : Option (Open T)) (o : Open T) (e : Option T) → q ≡ Some o → asked_in q ≡ as_post e → (y : T) × (e ≡ Some y) × (o.asked ≡ Asked.post y)
asked-post q o None h a = let z = sym (ap asked_in h) ∙ a in let y : ⊥ = grind arith in absurd y
asked-post q o (Some y) h a = let z = sym (ap asked_in h) ∙ a in (y, refl, grind arith)

pub asked-fetch : {T : Type 0} (q : Option (Open T)) (o : Open T) → q ≡ Some o → asked_in q ≡ Some Asked.fetch → o.asked ≡ Asked.fetch
asked-fetch q o h a = let z = sym (ap asked_in h) ∙ a in grind arith

module _ {T : Type 0} (n w : ℕ) (m : Memory) (g : Ghost T) (c : ChainOf m g) (d : EntriesOf m g) (crew : w < n) where
  pub past_head : (h : ℕ) → WasHead m g h → m.head ≢ h → g.position h < g.position m.head
  past_head h f e = grind (arith, c.inverse h f.held, c.inverse m.head c.head_in, f.low)

  pub past-tail : (l : ℕ) → WasTail m g l → m.tail ≢ l → g.position l < g.position m.tail
  past-tail l f e = grind (arith, c.inverse l f.held, c.inverse m.tail c.tail_in, f.low)

  -- the loop is done: the end of the worker's own order begins
  own-end : (v : Worker) (k : OrderKind) → v.kind ≡ k → is_pending m w ≡ false → OwnOrder m g w v → Known m g n w (goto v (last_of k))
  own-end v OrderKind.Post e q f = (f, tt, λ _. (e, (f.post e).done q))
  own-end v OrderKind.Fetch e q f = (f, tt, tt, λ _. (e, q))

  -- on to the next worker of the loop
  pub to-next-worker : (v : Worker) → OwnOrder m g w v → (v.index ≡ w → is_pending m w ≡ false) → Known m g n w (next_worker n v)
  to-next-worker v f h =
      cond_both (ltb (v.index + 1) n) _ _ (Known m g n w)
      (λ e. record { phased = f.phased; kinded = f.kinded; past = λ l. grind (arith, f.past, h); post = f.post; fetch = f.fetch; busy = f.busy; post_served = f.post_served; fetch_served = f.fetch_served })
      (λ e. own-end v v.kind refl (let a = ltb-false (v.index + 1) n e in grind (arith, f.past, h)) f)

  -- an entry of a phase above the worker's own is not its own
  pub not_own : (v : Worker) → OwnOrder m g w v → v.phase < phase_of m v.index → v.index ≡ w → is_pending m w ≡ false
  not_own v f h e = let a = f.phased in let z : phase_of m w ≡ phase_of m v.index = ap (phase_of m) (sym e) in let b : ⊥ = omega arith in absurd b

  -- its own node not after tail, a post is done
  post_done : (x : ℕ) → kind_of m w ≡ OrderKind.Post → node_of m w ≡ Some x → 0 < g.position x → g.position x ≤ g.position m.tail → is_pending m w ≡ false
  post_done x k e a b = go (is_pending m w) refl
    where
      go : (q : Bool) → is_pending m w ≡ q → is_pending m w ≡ false
      go false h = h
      go true h = let i = (d.posts w x h k e).2 a in let z : ⊥ = omega arith in absurd z

  -- the end of help_finish_enq
  pub enq-finished : (v : Worker) (r : Return) → OwnOrder m g w v → HelpingIn m g w v.phase v.index r → (BringsTail r w v.index → (v.kind ≡ OrderKind.Post) × (0 < g.position (named v.own)) × (g.position (named v.own) ≤ g.position m.tail))
      → After m g n w None (finished_enq n v r).worker (finished_enq n v r).outcome
  enq-finished v Return.HelpEnq f h a = (refl, (f, h))
  enq-finished v Return.HelpDeq f h a = (refl, (f, h))
  enq-finished v Return.NextWorker f h a = (refl, to-next-worker v f (λ e. let b = a e in post_done (named v.own) (f.kinded ∙ b.0) (f.post b.0).names b.1 b.2))
  enq-finished v Return.End f h a =
      let b = a tt in
      let k = f.kinded ∙ b.0 in
      let names = (f.post b.0).names in
      let s = post_done (named v.own) k names b.1 b.2 in (
        refl,
        refl,
        record {
          silent = s;
          linked = λ y e q. let i = (d.behind y e).1 in let j : node_of m w ≡ Some y = ap (node_of m) (sym q) ∙ i in let l : y ≡ named v.own = cc in let u = ap g.position l in omega arith;
          passed = λ x e. let i = c.taker_low x w e in grind (arith, d.claimed w, c.inverse x i.0, c.inverse m.head c.head_in);
          service = record { kind = Kind.Post; element = None };
          served = f.post_served b.0 s;
          element = refl;
        },
      )

  -- tail has passed l
  pub enq-passed : (v : Worker) (r : Return) → InFinishEnq m g w v r → g.position v.tail < g.position m.tail → After m g n w None (finished_enq n v r).worker (finished_enq n v r).outcome
  enq-passed v r f h = enq-finished v r f.order f.help (λ b. let a = f.aim b in (a.0, a.1, omega arith))

  -- the end of help_finish_deq
  pub deq-finished : (v : Worker) (r : Return) (h : ℕ) → FinishingDeq m g w v.kind v.own v.phase v.index r h → (BringsHead r → Passed m g w) → After m g n w None (finished_deq n v r).worker (finished_deq n v r).outcome
  deq-finished v Return.HelpEnq h f a = absurd f.from
  deq-finished v Return.HelpDeq h f a = (refl, (f.order, f.help))
  deq-finished v Return.NextWorker h f a = absurd f.from
  deq-finished v Return.End h f a = let b = f.aim tt in (refl, (f.order, b.0, b.1, a tt))
