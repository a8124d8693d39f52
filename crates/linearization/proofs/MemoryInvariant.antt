-- The invariant of what the workers share, in three parts. The chain: the linked nodes follow one another from node 0 on;
-- tail is the last of them or the one before; head is not after tail, and the nodes before head have takers. The entries:
-- a pending post's node is its own and not behind tail, a pending fetch's node is not after head, and head's taker names
-- head. The orders of the abstract line: a pending entry has an order that asks the same; a pending post is served exactly
-- if its node is linked, a pending fetch exactly if it is the taker of head's node; and the queue has the elements of the
-- nodes after head, without the first if head's node has a taker.
-- Each part is stated over just those parts of memory and ghost data that it speaks of, so that it stays as it is where
-- only others change.
use Rattle.std.proofs.Common.{◌≡◌, ℕ, ◌+◌, ◌<◌, ◌≤◌, Bool, true, false, ◌≢◌, List, Some, None, Option}
use Rattle.vocabulary.specs.declared.kind.Kind.{Kind}
use Rattle.promise.specs.AbstractLine.{Open}
use Rattle.promise.specs.Events.{Asked}
use Rattle.machine.specs.declared.entry.Entry.{Entry}
use Rattle.machine.specs.declared.entry.OrderKind.{OrderKind}
use Rattle.machine.specs.Memory.{Memory}
use Rattle.machine.specs.States.{element_of}
use Rattle.linearization.proofs.Ghosts.{Ghost, pending_in, kind_in, node_in, phase_in, Holds, front_of, service, service_in, asked_in, as_post}

pub record Chain (successor taker : ℕ → Option ℕ) (head tail : ℕ) (position node_at : ℕ → ℕ) (last : ℕ) (used : ℕ → Bool) : Type 0 where
  pub root : position 0 ≡ 1
  pub short : (x : ℕ) → position x ≤ last
  pub inverse : (x : ℕ) → 0 < position x → node_at (position x) ≡ x
  pub filled : (j : ℕ) → 0 < j → j ≤ last → position (node_at j) ≡ j
  pub known : (x : ℕ) → 0 < position x → used x ≡ true
  pub next : (x y : ℕ) → successor x ≡ Some y → (0 < position x) × (position y ≡ position x + 1)
  pub end : (x : ℕ) → 0 < position x → successor x ≡ None → position x ≡ last
  pub tail_in : 0 < position tail
  pub tail_near : last ≤ position tail + 1
  pub head_in : 0 < position head
  pub head_low : position head ≤ position tail
  pub passed : (x : ℕ) → 0 < position x → position x < position head → taker x ≢ None
  pub taker_low : (x k : ℕ) → taker x ≡ Some k → (0 < position x) × (position x ≤ position head) × (position x < position tail)

pub record Entries (entry : ℕ → Entry) (poster : ℕ → ℕ) (taker : ℕ → Option ℕ) (head tail : ℕ) (position : ℕ → ℕ) (used : ℕ → Bool) (helped : ℕ → ℕ → ℕ) : Type 0 where
  pub claimed : (k : ℕ) → taker head ≡ Some k → (kind_in entry k ≡ OrderKind.Fetch) × (node_in entry k ≡ Some head)
  -- the node after tail is its poster's
  pub behind : (y : ℕ) → position y ≡ position tail + 1 → (kind_in entry (poster y) ≡ OrderKind.Post) × (node_in entry (poster y) ≡ Some y)
  pub posts : (k x : ℕ) → pending_in entry k ≡ true → kind_in entry k ≡ OrderKind.Post → node_in entry k ≡ Some x → (poster x ≡ k) × (used x ≡ true) × (0 < position x → position x ≡ position tail + 1)
  pub post_node : (k : ℕ) → pending_in entry k ≡ true → kind_in entry k ≡ OrderKind.Post → node_in entry k ≢ None
  pub fetches : (k x : ℕ) → pending_in entry k ≡ true → kind_in entry k ≡ OrderKind.Fetch → node_in entry k ≡ Some x → (0 < position x) × (position x ≤ position head) × (position x < position tail)
  -- a helper set out with its entry's phase, or an earlier one
  pub helpers : (k j : ℕ) → helped k j ≤ phase_in entry j

pub record Orders {T : Type 0} (entry : ℕ → Entry) (successor taker : ℕ → Option ℕ) (head : ℕ) (position node_at : ℕ → ℕ) (last : ℕ) (used : ℕ → Bool) (element : ℕ → Option T) (queue : List T) (order : ℕ → Option (Open T)) : Type 0 where
  pub busy : (k : ℕ) → pending_in entry k ≡ true → order k ≢ None
  pub asks_post : (k x : ℕ) → pending_in entry k ≡ true → kind_in entry k ≡ OrderKind.Post → node_in entry k ≡ Some x → asked_in (order k) ≡ as_post (element x)
  pub asks_fetch : (k : ℕ) → pending_in entry k ≡ true → kind_in entry k ≡ OrderKind.Fetch → asked_in (order k) ≡ Some Asked.fetch
  pub post_waits : (k x : ℕ) → pending_in entry k ≡ true → kind_in entry k ≡ OrderKind.Post → node_in entry k ≡ Some x → position x ≡ 0 → service_in (order k) ≡ None
  pub post_served : (k x : ℕ) → pending_in entry k ≡ true → kind_in entry k ≡ OrderKind.Post → node_in entry k ≡ Some x → 0 < position x → service_in (order k) ≡ service Kind.Post None
  pub fetch_waits : (k : ℕ) → pending_in entry k ≡ true → kind_in entry k ≡ OrderKind.Fetch → taker head ≢ Some k → service_in (order k) ≡ None
  pub fetch_served : (k : ℕ) → pending_in entry k ≡ true → taker head ≡ Some k → service_in (order k) ≡ service Kind.Fetch (element_of element (successor head))
  pub held : Holds node_at element (front_of (taker head) (position head)) (last + 1) queue
  -- exactly the nodes that are used have elements, but for node 0
  pub fresh : (j : ℕ) → used j ≡ false → element j ≡ None
  pub supply : (j : ℕ) → j ≢ 0 → element j ≡ None → used j ≡ false

abbrev pub ChainOf : {T : Type 0} → Memory → Ghost T → Type 0
ChainOf m g = Chain m.successor m.taker m.head m.tail g.position g.node_at g.last g.used

abbrev pub EntriesOf : {T : Type 0} → Memory → Ghost T → Type 0
EntriesOf m g = Entries m.entry m.poster m.taker m.head m.tail g.position g.used g.helped

abbrev pub OrdersOf : {T : Type 0} → Memory → Ghost T → Type 0
OrdersOf m g = Orders m.entry m.successor m.taker m.head g.position g.node_at g.last g.used g.element g.queue g.order

pub record MemoryInvariant {T : Type 0} (m : Memory) (g : Ghost T) : Type 0 where
  pub chain : ChainOf m g
  pub entries : EntriesOf m g
  pub orders : OrdersOf m g
