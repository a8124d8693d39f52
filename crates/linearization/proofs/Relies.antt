-- What every worker may rely on over another's step, from memory m and ghost data g to m' and g': u is the one that may
-- place, announce and end an order of its own, v the one whose marks and helping may change.
use Rattle.std.proofs.Common.{◌≡◌, ℕ, ◌+◌, ◌<◌, ◌≤◌, Bool, true, false, ◌≢◌, ◌⊎◌, Some, None, Option}
use Rattle.vocabulary.specs.declared.kind.Kind.{Kind}
use Rattle.machine.specs.declared.entry.OrderKind.{OrderKind}
use Rattle.machine.specs.Memory.{Memory}
use Rattle.machine.specs.States.{element_of}
use Rattle.linearization.proofs.Ghosts.{Ghost, is_pending, kind_of, node_of, phase_of, count_of, service, service_in, asked_in, placing_in}
use Rattle.linearization.proofs.Transitions.{Linked}

-- the chain grows at its end, head and tail move on; a successor or a taker once set stays, and so does the poster of a
-- used node
pub record ChainRely (position : ℕ → ℕ) (used : ℕ → Bool) (tail head : ℕ) (successor taker : ℕ → Option ℕ) (poster : ℕ → ℕ) (position' : ℕ → ℕ) (used' : ℕ → Bool) (tail' head' : ℕ) (successor' taker' : ℕ → Option ℕ) (poster' : ℕ → ℕ) : Type 0 where
  pub stays : (x : ℕ) → 0 < position x → position' x ≡ position x
  pub tail_on : position tail ≤ position' tail'
  pub head_on : position head ≤ position' head'
  pub successors : (x y : ℕ) → successor x ≡ Some y → successor' x ≡ Some y
  pub takers : (x k : ℕ) → taker x ≡ Some k → taker' x ≡ Some k
  pub posters : (x : ℕ) → used x ≡ true → poster' x ≡ poster x
  pub uses : (x : ℕ) → used x ≡ true → used' x ≡ true

abbrev pub ChainRelyOf : {T : Type 0} → Memory → Ghost T → Memory → Ghost T → Type 0
ChainRelyOf m g m' g' = ChainRely g.position g.used m.tail m.head m.successor m.taker m.poster g'.position g'.used m'.tail m'.head m'.successor m'.taker m'.poster

-- of the entries and the worker's own nodes
pub record EntryRely {T : Type 0} (n u v : ℕ) (m : Memory) (g : Ghost T) (m' : Memory) (g' : Ghost T) : Type 0 where
  -- an entry that changes has its writing counted; a new order has a phase above that of all who help its worker
  pub counts : (k : ℕ) → (m'.entry k ≡ m.entry k) ⊎ (count_of m k < count_of m' k)
  pub phases : (k : ℕ) → ((phase_of m' k ≡ phase_of m k) × (kind_of m' k ≡ kind_of m k) × (is_pending m' k ≡ true → is_pending m k ≡ true)) ⊎ ((is_pending m k ≡ false) × (k ≡ u) × ((j : ℕ) → j < n → g.helped k j < phase_of m' k))
  -- the entries that someone is about to finish are kept, or done
  pub late_post : (y : ℕ) → g.position y ≡ g.position m.tail + 1 → (m'.entry (m.poster y) ≡ m.entry (m.poster y)) ⊎ (is_pending m' (m.poster y) ≡ false)
  pub late_fetch : (k : ℕ) → m.taker m.head ≡ Some k → (m'.entry k ≡ m.entry k) ⊎ (is_pending m' k ≡ false)
  pub head_waits : (k : ℕ) → m.taker m.head ≡ Some k → is_pending m k ≡ true → m'.head ≡ m.head
  -- what an exchange that can still hold leaves as it was
  pub frozen_post : (l k : ℕ) → 0 < g.position l → g.position l ≤ g.position m.tail → m'.successor l ≡ None → is_pending m k ≡ true → kind_of m k ≡ OrderKind.Post → m'.entry k ≡ m.entry k
  pub frozen_fetch : (h k : ℕ) → 0 < g.position h → g.position h ≤ g.position m.head → m'.taker h ≡ None → is_pending m k ≡ true → kind_of m k ≡ OrderKind.Fetch → node_of m k ≡ Some h → m'.entry k ≡ m.entry k
  -- helping
  pub helping : (k j : ℕ) → j ≢ v → g'.helped k j ≡ g.helped k j
  pub unhelped : (k j : ℕ) → is_pending m k ≡ false → g'.helped k j ≡ g.helped k j
  -- a worker's own entry and nodes
  pub unlinked : (x : ℕ) → g.used x ≡ true → is_pending m (m.poster x) ≡ false → g'.position x ≡ g.position x
  pub linked : (w : ℕ) → w ≢ u → is_pending m w ≡ false → Linked m g w → Linked m' g' w
  pub claims : (w x : ℕ) → is_pending m w ≡ false → m'.taker x ≡ Some w → m.taker x ≡ Some w
  pub done : (w : ℕ) → w ≢ u → is_pending m w ≡ false → (is_pending m' w ≡ false) × (node_of m' w ≡ node_of m w)
  pub posting : (w x : ℕ) → w ≢ u → kind_of m w ≡ OrderKind.Post → node_of m w ≡ Some x → (node_of m' w ≡ Some x) × (is_pending m' w ≡ false → is_pending m w ≡ true → 0 < g.position x)
  pub fetching : (w x : ℕ) → w ≢ u → kind_of m w ≡ OrderKind.Fetch → is_pending m w ≡ true → is_pending m' w ≡ false → node_of m' w ≡ Some x → m'.taker x ≡ Some w

-- a fetch whose entry is no more pending: it found nothing, or has the element after the node that it names
pub record FetchServed {T : Type 0} (m : Memory) (g : Ghost T) (w : ℕ) : Type 0 where
  pub nothing : node_of m w ≡ None → service_in (g.order w) ≡ service Kind.None None
  pub something : (x : ℕ) → node_of m w ≡ Some x → (service_in (g.order w) ≡ service Kind.Fetch (element_of g.element (m.successor x))) × (m.successor x ≢ None)

-- of the orders
pub record OrderRely {T : Type 0} (u v : ℕ) (m : Memory) (g : Ghost T) (m' : Memory) (g' : Ghost T) : Type 0 where
  pub elements : (x : ℕ) → g.used x ≡ true → g'.element x ≡ g.element x
  -- an order that is not pending is left alone; a pending one goes on asking the same
  pub settled : (k : ℕ) → k ≢ u → is_pending m k ≡ false → g'.order k ≡ g.order k
  pub asking : (k : ℕ) → is_pending m k ≡ true → (asked_in (g'.order k) ≡ asked_in (g.order k)) × (placing_in (g'.order k) ≡ placing_in (g.order k))
  -- an order that ceases to be pending is served
  pub post_done : (w : ℕ) → w ≢ u → kind_of m w ≡ OrderKind.Post → is_pending m w ≡ true → is_pending m' w ≡ false → service_in (g'.order w) ≡ service Kind.Post None
  pub fetch_done : (w : ℕ) → w ≢ u → kind_of m w ≡ OrderKind.Fetch → is_pending m w ≡ true → is_pending m' w ≡ false → FetchServed m' g' w
  -- marks
  pub marks : (w : ℕ) → w ≢ v → g'.saw w ≡ g.saw w

pub record Rely {T : Type 0} (n u v : ℕ) (m : Memory) (g : Ghost T) (m' : Memory) (g' : Ghost T) : Type 0 where
  pub chain : ChainRelyOf m g m' g'
  pub entries : EntryRely n u v m g m' g'
  pub orders : OrderRely u v m g m' g'
