-- Each transition keeps the invariant of what is shared, and so do placing an order and ending one.
use Rattle.std.proofs.Common.{◌≡◌, ℕ, true, false, ◌≢◌, Some, None, Option, sym, refl, ◌∙◌, arith}
use Rattle.promise.specs.Events.{Asked, Point}
use Rattle.machine.specs.declared.entry.OrderKind.{OrderKind}
use Rattle.machine.specs.Memory.{Memory}
use Rattle.linearization.proofs.Ghosts.{Ghost, Write, written, with_poster, is_pending, kind_of, node_of, placed, supplied, ended}
use Rattle.linearization.proofs.MemoryInvariant.{ChainOf, EntriesOf, OrdersOf, MemoryInvariant}
use Rattle.linearization.proofs.Transitions.{Transition}
use Rattle.linearization.proofs.ChainPreserved.{chain-linked, chain-tail, chain-taken, chain_head, chain-supplied}
use Rattle.linearization.proofs.EntriesPreserved.{entries-announced, entries-done, entries-named, entries-linked, entries-tail, entries-taken, entries-head, entries-helped, entries-supplied}
use Rattle.linearization.proofs.OrdersPreserved.{orders-announced, orders-done, orders-named, orders-changed, orders-empty, orders-linked, orders-taken, orders-head, orders-supplied}

-- a pending post's node is not linked while tail is the last node
pub not-linked : {T : Type 0} (m : Memory) (g : Ghost T) → ChainOf m g → EntriesOf m g → (k x : ℕ) → g.position m.tail ≡ g.last → is_pending m k ≡ true → kind_of m k ≡ OrderKind.Post → node_of m k ≡ Some x → g.position x ≡ 0
not-linked m g c d k x h a ki b = let w = d.posts k x a ki b in grind (arith, c.short x, w)

module _ {T : Type 0} {m : Memory} {g : Ghost T} (i : MemoryInvariant m g) where
  abbrev c : ChainOf m g
  c = i.chain

  abbrev d : EntriesOf m g
  d = i.entries

  abbrev o : OrdersOf m g
  o = i.orders

  pub preserved : {n u v t : ℕ} {e : Write} {p : Option Point} {g' : Ghost T} → Transition n u v t m g e p g' → MemoryInvariant (written m e) g'
  preserved Transition.nothing = i
  preserved (Transition.sees_empty e) = record { chain = i.chain; entries = i.entries; orders = i.orders }
  preserved {v = v} (Transition.sets_out k p) = record { chain = i.chain; entries = entries-helped m g c d k v; orders = i.orders }
  preserved {u = u} (Transition.announces q e own un hi over) =
      record {
        chain = i.chain;
        entries = entries-announced m g c d u q e own un.silent un.linked un.passed (λ a. ((un.asks.post a).0, un.post a)) (λ a. (un.asks.fetch a).0) hi;
        orders = orders-announced m g o u q e own un.passed un.post un.busy un.asks un.waits;
      }
  preserved (Transition.finishes k y f x ph ki nd is lo ow) = record { chain = i.chain; entries = entries-done m g c d k f OrderKind.Post x ph ki (nd ∙ sym is); orders = orders-done m g o k _ refl }
  preserved {t = t} (Transition.links k l x a y su en at p ki nd oo aq gi el) =
      let z = not-linked m g c d k x at p ki nd in
      let w = i.entries.posts k x p ki nd in
      record {
        chain = chain-linked _ _ _ _ _ _ _ _ c l x su en at z w.1;
        entries = entries-linked m g c d k x at z p ki nd;
        orders = orders-linked m g c d o k l x a y t en at z p ki nd oo el;
      }
  preserved (Transition.moves_tail y su s) = record { chain = chain-tail _ _ _ _ _ _ _ _ c y su; entries = entries-tail m g c d y su s; orders = i.orders }
  preserved (Transition.names_node k h f p ki ph be ho lo ne) =
      record {
        chain = i.chain;
        entries = entries-named m g c d k f true (Some h) ph ki (λ e. let b = be m.head e in let z : ⊥ = omega arith in absurd z) (λ x e. grind arith);
        orders = orders-named m g o k f (Some h) p ki;
      }
  preserved (Transition.finds_empty k f a e p ki ph be oo aq gi sa pl) =
      record {
        chain = i.chain;
        entries = entries-named m g c d k f false None ph ki (λ e. let b = be m.head e in let z : ⊥ = omega arith in absurd z) (λ x e. grind arith);
        orders = orders-empty m g o k _ _ refl;
      }
  preserved {t = t} (Transition.takes k a x y rest fr p ki nd oo aq gi su el qu ho) =
      record {
        chain = chain-taken _ _ _ _ _ _ _ _ c k (i.entries.fetches k m.head p ki nd).2;
        entries = entries-taken m g c d k ki nd;
        orders = orders-taken m g c d o k a x y rest t fr ki oo su el ho;
      }
  preserved (Transition.settles k h f x ph ki nd is ta he) = record { chain = i.chain; entries = entries-done m g c d k f OrderKind.Fetch x ph ki nd; orders = orders-done m g o k _ refl }
  preserved (Transition.moves_head k x su ta s) = record { chain = chain_head _ _ _ _ _ _ _ _ c k x su ta; entries = entries-head m g c d x su; orders = orders-head m g c d o k x su ta s }

  pub preserved-placed : (w : ℕ) (a : Asked T) (steps : ℕ) → is_pending m w ≡ false → MemoryInvariant m (placed g w a steps)
  preserved-placed w a steps s = record { chain = i.chain; entries = i.entries; orders = orders-changed m g o w _ s }

  pub preserved-ended : (w : ℕ) → is_pending m w ≡ false → MemoryInvariant m (ended g w)
  preserved-ended w s = record { chain = i.chain; entries = i.entries; orders = orders-changed m g o w _ s }

  pub preserved-supplied : (w j : ℕ) (y : T) → j ≢ 0 → g.used j ≡ false → MemoryInvariant (with_poster m j w) (supplied g j y)
  preserved-supplied w j y z f = record { chain = chain-supplied _ _ _ _ _ _ _ _ c j; entries = entries-supplied m g c d w j f; orders = orders-supplied m g c d o j y z f }
