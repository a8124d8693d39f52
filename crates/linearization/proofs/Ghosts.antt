-- Ghost data beside the machine: the chain of linked nodes by positions, who set out to help whom, and the abstract line's
-- queue, orders and marks. The machine knows nothing of it. And what a step writes, as one thing.
use Rattle.std.proofs.Common.{◌≡◌, ℕ, ◌+◌, Bool, true, cond, eqb, List, [], ◌∷◌, ◌++◌, Some, None, Option}
use Rattle.vocabulary.specs.declared.kind.Kind.{Kind}
use Rattle.promise.specs.AbstractLine.{Given, Open, Line}
use Rattle.promise.specs.Events.{Asked}
use Rattle.promise.specs.Maps.{put}
use Rattle.machine.specs.declared.entry.Descriptor.{Descriptor}
use Rattle.machine.specs.declared.entry.Entry.{Entry}
use Rattle.machine.specs.declared.entry.OrderKind.{OrderKind}
use Rattle.machine.specs.Memory.{Memory, with_head, with_tail, with_successor, with_taker, with_entry}

pub record Ghost (T : Type 0) : Type 0 where
  -- the position of each linked node in the chain, from 1 for node 0 on, and 0 for a node that is not linked; the node at
  -- each position; the last position
  pub position : ℕ → ℕ
  pub node_at : ℕ → ℕ
  pub last : ℕ
  -- the nodes that are not fresh: node 0, and those that posts took; the element of each
  pub used : ℕ → Bool
  pub element : ℕ → Option T
  -- of the workers k and j: the phase with which j last set out to help k
  pub helped : ℕ → ℕ → ℕ
  -- the abstract line
  pub queue : List T
  pub order : ℕ → Option (Open T)
  pub saw : ℕ → Option ℕ

-- the abstract line, with so many steps counted
abbrev pub line_of : {T : Type 0} → Ghost T → ℕ → Line T
line_of g steps = record { queue = g.queue; steps = steps; order = g.order; saw = g.saw }

-- the parts of a worker's entry
abbrev pub pending_in : (ℕ → Entry) → ℕ → Bool
pending_in entry k = (entry k).descriptor.pending

abbrev pub kind_in : (ℕ → Entry) → ℕ → OrderKind
kind_in entry k = (entry k).descriptor.kind

abbrev pub node_in : (ℕ → Entry) → ℕ → Option ℕ
node_in entry k = (entry k).descriptor.node

abbrev pub phase_in : (ℕ → Entry) → ℕ → ℕ
phase_in entry k = (entry k).descriptor.phase

abbrev pub is_pending : Memory → ℕ → Bool
is_pending m k = pending_in m.entry k

abbrev pub kind_of : Memory → ℕ → OrderKind
kind_of m k = kind_in m.entry k

abbrev pub node_of : Memory → ℕ → Option ℕ
node_of m k = node_in m.entry k

abbrev pub phase_of : Memory → ℕ → ℕ
phase_of m k = phase_in m.entry k

abbrev pub count_of : Memory → ℕ → ℕ
count_of m k = (m.entry k).count

-- what a step writes, at most one thing
pub data Write : Type 0 where
  nothing : Write
  entry : ℕ → Descriptor → Write
  successor : ℕ → ℕ → Write
  taker : ℕ → ℕ → Write
  tail : ℕ → Write
  head : ℕ → Write

abbrev pub written : Memory → Write → Memory
written m Write.nothing = m
written m (Write.entry k d) = with_entry m k d
written m (Write.successor l x) = with_successor m l (Some x)
written m (Write.taker h k) = with_taker m h k
written m (Write.tail x) = with_tail m x
written m (Write.head x) = with_head m x

-- a post takes a node: the memory knows its poster
abbrev pub with_poster : Memory → ℕ → ℕ → Memory
with_poster m j w = record { head = m.head; tail = m.tail; successor = m.successor; taker = m.taker; entry = m.entry; poster = put m.poster j w }

-- a map from pairs of numbers, changed at one place
unfoldable pub put2 : {X : Type 0} → (ℕ → ℕ → X) → ℕ → ℕ → X → ℕ → ℕ → X
put2 f i j v a b = cond (eqb a i) (cond (eqb b j) v (f a b)) (f a b)

-- what a worker's order asks; how it is served: the kind and the element that its answer will tell; its placing
pub record Service (T : Type 0) : Type 0 where
  pub kind : Kind
  pub element : Option T

abbrev pub service : {T : Type 0} → Kind → Option T → Option (Service T)
service kind element = Some (record { kind = kind; element = element })

abbrev pub served_by : {T : Type 0} → Option (Given T) → Option (Service T)
served_by None = None
served_by (Some v) = Some (record { kind = v.kind; element = v.element })

abbrev pub service_in : {T : Type 0} → Option (Open T) → Option (Service T)
service_in None = None
service_in (Some o) = served_by o.given

abbrev pub asked_in : {T : Type 0} → Option (Open T) → Option (Asked T)
asked_in None = None
asked_in (Some o) = Some o.asked

abbrev pub placing_in : {T : Type 0} → Option (Open T) → ℕ
placing_in None = 0
placing_in (Some o) = o.placing

-- a post of a node's element
abbrev pub as_post : {T : Type 0} → Option T → Option (Asked T)
as_post None = None
as_post (Some x) = Some (Asked.post x)

-- the position of the first node whose element is in the queue, by head's taker and position
abbrev pub front_of : Option ℕ → ℕ → ℕ
front_of None p = p + 1
front_of (Some k) p = p + 2

-- the elements of the nodes at the positions from one up to another, in their order
pub data Holds {T : Type 0} (node_at : ℕ → ℕ) (element : ℕ → Option T) : ℕ → ℕ → List T → Type 0 where
  none : {i : ℕ} → Holds node_at element i i []
  more : {i e : ℕ} {x : T} {xs : List T} → element (node_at i) ≡ Some x → Holds node_at element (i + 1) e xs → Holds node_at element i e (x ∷ xs)

-- how the ghost data change. The order o of the worker k gets a point
abbrev pub pointed : {T : Type 0} → Open T → Given T → Option (Open T)
pointed o v = Some (record { asked = o.asked; placing = o.placing; given = Some v })

-- w places an order
abbrev pub placed : {T : Type 0} → Ghost T → ℕ → Asked T → ℕ → Ghost T
placed g w a steps = record { position = g.position; node_at = g.node_at; last = g.last; used = g.used; element = g.element; helped = g.helped; queue = g.queue; order = put g.order w (Some (record { asked = a; placing = steps; given = None })); saw = put g.saw w None }

-- a post takes the node j for x
abbrev pub supplied : {T : Type 0} → Ghost T → ℕ → T → Ghost T
supplied g j x = record { position = g.position; node_at = g.node_at; last = g.last; used = put g.used j true; element = put g.element j (Some x); helped = g.helped; queue = g.queue; order = g.order; saw = g.saw }

-- w's order is answered
abbrev pub ended : {T : Type 0} → Ghost T → ℕ → Ghost T
ended g w = record { position = g.position; node_at = g.node_at; last = g.last; used = g.used; element = g.element; helped = g.helped; queue = g.queue; order = put g.order w None; saw = put g.saw w None }

-- v's step, numbered t, saw the queue empty
abbrev pub marked : {T : Type 0} → Ghost T → ℕ → ℕ → Ghost T
marked g v t = record { position = g.position; node_at = g.node_at; last = g.last; used = g.used; element = g.element; helped = g.helped; queue = g.queue; order = g.order; saw = put g.saw v (Some t) }

-- j sets out to help k with the phase p
abbrev pub set_out : {T : Type 0} → Ghost T → ℕ → ℕ → ℕ → Ghost T
set_out g k j p = record { position = g.position; node_at = g.node_at; last = g.last; used = g.used; element = g.element; helped = put2 g.helped k j p; queue = g.queue; order = g.order; saw = g.saw }

-- the node x is linked at the end; k's post, with the element y, has its point t
abbrev pub linked : {T : Type 0} → Ghost T → ℕ → ℕ → Open T → ℕ → T → Ghost T
linked g x k o t y = record { position = put g.position x (g.last + 1); node_at = put g.node_at (g.last + 1) x; last = g.last + 1; used = g.used; element = g.element; helped = g.helped; queue = g.queue ++ y ∷ []; order = put g.order k (pointed o (record { number = t; kind = Kind.Post; element = None })); saw = g.saw }

-- k's fetch takes the first element y, and has its point t; the rest is left
abbrev pub taken : {T : Type 0} → Ghost T → ℕ → Open T → ℕ → T → List T → Ghost T
taken g k o t y rest = record { position = g.position; node_at = g.node_at; last = g.last; used = g.used; element = g.element; helped = g.helped; queue = rest; order = put g.order k (pointed o (record { number = t; kind = Kind.Fetch; element = Some y })); saw = g.saw }

-- k's fetch finds nothing, and has the mark e of v as its point
abbrev pub found_empty : {T : Type 0} → Ghost T → ℕ → Open T → ℕ → ℕ → Ghost T
found_empty g k o v e = record { position = g.position; node_at = g.node_at; last = g.last; used = g.used; element = g.element; helped = g.helped; queue = g.queue; order = put g.order k (pointed o (record { number = e; kind = Kind.None; element = None })); saw = put g.saw v None }
