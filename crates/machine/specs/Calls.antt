-- The calls on a run: which are refused, and the state and the event that each gives.
use Rattle.std.specs.Prelude.{ℕ, zero, suc, ◌+◌, Bool, true, false, not, List, [], ◌∷◌, Some, None, Option, ◌==◌, nat_le, nat_lt}
use Rattle.vocabulary.specs.declared.refusal.Refusal.{Refusal}
use Rattle.promise.specs.declared.call.Call.{Call}
use Rattle.promise.specs.declared.reply.Reply.{Reply}
use Rattle.promise.specs.Events.{Event}
use Rattle.machine.specs.declared.stage.Stage.{Stage}
use Rattle.machine.specs.States.{State, opened, posting, fetching, stepping, step_reply}

-- a run with a number of nodes of which some are taken; nodes are taken lowest first and used once
pub record Run (T : Type 0) : Type 0 where
  pub state : State T
  pub nodes : ℕ
  pub used : ℕ

abbrev pub opened_run : {T : Type 0} → ℕ → ℕ → Run T
opened_run n nodes = record { state = opened n; nodes = nodes; used = 0 }

-- the lowest node not yet taken; node 0 is nobody's
abbrev pub lowest_free : {T : Type 0} → Run T → ℕ
lowest_free r = r.used + 1

abbrev pub idle_at : Stage → Bool
idle_at Stage.Idle = true
idle_at (Stage.Order a) = false
idle_at (Stage.FinishEnq a t) = false
idle_at (Stage.FinishDeq a t) = false
idle_at (Stage.HelpEnq a) = false
idle_at (Stage.HelpDeq a) = false
idle_at (Stage.Empty a) = false
idle_at (Stage.Take a) = false

-- whether a worker has an unanswered order
abbrev pub busy : {T : Type 0} → State T → ℕ → Bool
busy s w = not (idle_at (s.worker w).stage)

-- the first of these tests that fails gives its refusal
abbrev pub unless : Bool → Refusal → Option Refusal → Option Refusal
unless true n rest = Some n
unless false n rest = rest

abbrev pub used_up : {T : Type 0} → State T → Bool
used_up s = nat_le 100000000 s.steps

abbrev pub fetch_refusal : {T : Type 0} → Run T → ℕ → Option Refusal
fetch_refusal r w = unless (not (nat_lt w r.state.crew)) Refusal.UnknownWorker (unless (busy r.state w) Refusal.UnansweredOrder None)

abbrev pub post_refusal : {T : Type 0} → Run T → ℕ → Option Refusal
post_refusal r w = unless (not (nat_lt w r.state.crew)) Refusal.UnknownWorker (unless (busy r.state w) Refusal.UnansweredOrder (unless (nat_le r.nodes r.used) Refusal.NoFreeNode None))

abbrev pub step_refusal : {T : Type 0} → Run T → ℕ → Option Refusal
step_refusal r w = unless (not (nat_lt w r.state.crew)) Refusal.UnknownWorker (unless (used_up r.state) Refusal.StepsUsedUp None)

-- c is the picker's crew
abbrev pub turn_refusal : {T : Type 0} → Run T → ℕ → Option Refusal
turn_refusal r c = unless (not (c == r.state.crew)) Refusal.OtherCrew (unless (used_up r.state) Refusal.StepsUsedUp None)

-- a call as it was played: the run after it, and the event
pub record Played (T : Type 0) : Type 0 where
  pub run : Run T
  pub event : Event T

abbrev pub with_state : {T : Type 0} → Run T → State T → Run T
with_state r s = record r { state = s }

-- a refused call changes nothing
abbrev pub or_else : {T : Type 0} → Run T → Call T → Option Refusal → Played T → Played T
or_else r c None p = p
or_else r c (Some n) p = record { run = r; event = record { call = c; who = None; reply = Reply.Refused n } }

abbrev pub accepted : {T : Type 0} → Run T → Call T → Played T
accepted r c = record { run = r; event = record { call = c; who = None; reply = Reply.Accepted } }

-- a step of the worker w
abbrev pub stepped : {T : Type 0} → Run T → Call T → ℕ → Played T
stepped r c w = record { run = with_state r (stepping r.state w); event = record { call = c; who = Some w; reply = step_reply r.state w } }

-- a call by a picker of a crew of c, which would name the worker v if it were asked. Only an accepted turn asks it
abbrev pub played : {T : Type 0} → Run T → ℕ → ℕ → Call T → Played T
played r c v (Call.Post w x) = or_else r (Call.Post w x) (post_refusal r w) (accepted (record r { state = posting r.state w x (lowest_free r); used = r.used + 1 }) (Call.Post w x))
played r c v (Call.Fetch w) = or_else r (Call.Fetch w) (fetch_refusal r w) (accepted (with_state r (fetching r.state w)) (Call.Fetch w))
played r c v (Call.Step w) = or_else r (Call.Step w) (step_refusal r w) (stepped r (Call.Step w) w)
played r c v Call.Turn = or_else r Call.Turn (turn_refusal r c) (stepped r Call.Turn v)

-- the nodes from one on, by their successors, at most so many
abbrev pub chain_from : (ℕ → Option ℕ) → ℕ → Option ℕ → List ℕ
chain_from successor zero x = []
chain_from successor (suc k) None = []
chain_from successor (suc k) (Some j) = j ∷ chain_from successor k (successor j)

-- without the first node where head's node has a taker
abbrev pub untaken : Option ℕ → List ℕ → List ℕ
untaken None js = js
untaken (Some k) [] = []
untaken (Some k) (j ∷ js) = js

abbrev pub element_then : {T : Type 0} → Option T → List T → List T
element_then None xs = xs
element_then (Some x) xs = x ∷ xs

abbrev pub elements_of : {T : Type 0} → (ℕ → Option T) → List ℕ → List T
elements_of element [] = []
elements_of element (j ∷ js) = element_then (element j) (elements_of element js)

-- what closing leaves, front first: the elements of the nodes after head's
abbrev pub left : {T : Type 0} → Run T → List T
left r = elements_of r.state.element (untaken (r.state.memory.taker r.state.memory.head) (chain_from r.state.memory.successor r.used (r.state.memory.successor r.state.memory.head)))
