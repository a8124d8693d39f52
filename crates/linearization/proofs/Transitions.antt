-- What a counted step of the worker u may do to memory and ghost data, with the premises that make it harmless, and the
-- point that it tells. Marks and helping go by the worker v; u and v are the stepping worker, but a fact of that worker
-- itself is carried over a step as if another, u, had made it.
use Rattle.std.proofs.Common.{◌≡◌, ℕ, ◌+◌, ◌<◌, ◌≤◌, true, false, ◌≢◌, List, [], ◌∷◌, Some, None, Option}
use Rattle.vocabulary.specs.declared.kind.Kind.{Kind}
use Rattle.promise.specs.AbstractLine.{Open}
use Rattle.promise.specs.Events.{Asked, Point}
use Rattle.machine.specs.declared.entry.OrderKind.{OrderKind}
use Rattle.machine.specs.Accesses.{described, named}
use Rattle.machine.specs.Memory.{Memory}
use Rattle.linearization.proofs.Ghosts.{Ghost, Write, is_pending, kind_of, node_of, phase_of, Holds, service_in, asked_in, as_post, marked, set_out, linked, taken, found_empty}

-- no node that w posted is after tail
abbrev pub Linked : {T : Type 0} → Memory → Ghost T → ℕ → Type 0
Linked m g w = (y : ℕ) → g.position y ≡ g.position m.tail + 1 → m.poster y ≢ w

-- head has passed all that w took
abbrev pub Passed : {T : Type 0} → Memory → Ghost T → ℕ → Type 0
Passed m g w = (x : ℕ) → m.taker x ≡ Some w → g.position x < g.position m.head

-- the node x is w's, and not linked
pub record Unlinked {T : Type 0} (m : Memory) (g : Ghost T) (w x : ℕ) : Type 0 where
  pub mine : m.poster x ≡ w
  pub old : g.used x ≡ true
  pub loose : g.position x ≡ 0

-- what w's order asks, by its kind and node
pub record AskedAs {T : Type 0} (g : Ghost T) (w : ℕ) (d : OrderKind) (own : Option ℕ) : Type 0 where
  pub post : d ≡ OrderKind.Post → (own ≡ Some (named own)) × (asked_in (g.order w) ≡ as_post (g.element (named own)))
  pub fetch : d ≡ OrderKind.Fetch → (own ≡ None) × (asked_in (g.order w) ≡ Some Asked.fetch)

-- what is known of an order before it is announced
pub record Unannounced {T : Type 0} (m : Memory) (g : Ghost T) (w : ℕ) (d : OrderKind) (own : Option ℕ) : Type 0 where
  pub silent : is_pending m w ≡ false
  pub linked : Linked m g w
  pub passed : Passed m g w
  pub post : d ≡ OrderKind.Post → Unlinked m g w (named own)
  pub busy : g.order w ≢ None
  pub asks : AskedAs g w d own
  pub waits : service_in (g.order w) ≡ None

pub data Transition {T : Type 0} (n u v t : ℕ) (m : Memory) (g : Ghost T) : Write → Option Point → Ghost T → Type 0 where
  nothing : Transition n u v t m g Write.nothing None g
  -- v sees that the queue is empty
  sees_empty : g.queue ≡ [] → Transition n u v t m g Write.nothing None (marked g v t)
  -- v sets out to help k
  sets_out : (k : ℕ) → is_pending m k ≡ true → Transition n u v t m g Write.nothing None (set_out g k v (phase_of m v))
  -- u announces its order, with a phase above that of all who set out to help u before
  announces : (q : ℕ) (d : OrderKind) (own : Option ℕ) → Unannounced m g u d own → phase_of m u < q → ((j : ℕ) → j < n → g.helped u j < q) → Transition n u v t m g (Write.entry u (described q true d own)) None g
  -- k's post, whose node is linked, is finished
  finishes : (k y f : ℕ) (o : Option ℕ) → phase_of m k ≡ f → kind_of m k ≡ OrderKind.Post → node_of m k ≡ Some y → o ≡ Some y → 0 < g.position y → m.poster y ≡ k → Transition n u v t m g (Write.entry k (described f false OrderKind.Post o)) None g
  -- k's node is linked at the end
  links : (k l x : ℕ) (o : Open T) (y : T) → m.successor l ≡ None → g.position l ≡ g.last → g.position m.tail ≡ g.last → is_pending m k ≡ true → kind_of m k ≡ OrderKind.Post → node_of m k ≡ Some x → g.order k ≡ Some o → o.asked ≡ Asked.post y → o.given ≡ None → g.element x ≡ Some y
      → Transition n u v t m g (Write.successor l x) (Some (record { number = t; worker = k; kind = Kind.Post })) (linked g x k o t y)
  moves_tail : (y : ℕ) → m.successor m.tail ≡ Some y → is_pending m (m.poster y) ≡ false → Transition n u v t m g (Write.tail y) None g
  -- k's entry names the node h, further on than what it named before
  names_node : (k h f : ℕ) → is_pending m k ≡ true → kind_of m k ≡ OrderKind.Fetch → phase_of m k ≡ f → ((x : ℕ) → node_of m k ≡ Some x → g.position x < g.position h) → 0 < g.position h → g.position h ≤ g.position m.head → g.position h < g.position m.tail
      → Transition n u v t m g (Write.entry k (described f true OrderKind.Fetch (Some h))) None g
  -- k's fetch finds nothing, by the mark e of v
  finds_empty : (k f : ℕ) (o : Open T) (e : ℕ) → is_pending m k ≡ true → kind_of m k ≡ OrderKind.Fetch → phase_of m k ≡ f → ((x : ℕ) → node_of m k ≡ Some x → g.position x < g.position m.head) → g.order k ≡ Some o → o.asked ≡ Asked.fetch → o.given ≡ None → g.saw v ≡ Some e → o.placing < e
      → Transition n u v t m g (Write.entry k (described f false OrderKind.Fetch None)) (Some (record { number = e; worker = k; kind = Kind.None })) (found_empty g k o v e)
  -- k becomes the taker of head's node, and gets the first element, that of the next node x
  takes : (k : ℕ) (o : Open T) (x : ℕ) (y : T) (rest : List T) → m.taker m.head ≡ None → is_pending m k ≡ true → kind_of m k ≡ OrderKind.Fetch → node_of m k ≡ Some m.head → g.order k ≡ Some o → o.asked ≡ Asked.fetch → o.given ≡ None → m.successor m.head ≡ Some x → g.element x ≡ Some y → g.queue ≡ y ∷ rest → Holds g.node_at g.element (g.position m.head + 2) (g.last + 1) rest
      → Transition n u v t m g (Write.taker m.head k) (Some (record { number = t; worker = k; kind = Kind.Fetch })) (taken g k o t y rest)
  -- the fetch of k, the taker of the node h, is settled
  settles : (k h f : ℕ) (o : Option ℕ) → phase_of m k ≡ f → kind_of m k ≡ OrderKind.Fetch → node_of m k ≡ o → o ≡ Some h → m.taker h ≡ Some k → (is_pending m k ≡ true → m.head ≡ h) → Transition n u v t m g (Write.entry k (described f false OrderKind.Fetch o)) None g
  moves_head : (k x : ℕ) → m.successor m.head ≡ Some x → m.taker m.head ≡ Some k → is_pending m k ≡ false → Transition n u v t m g (Write.head x) None g
