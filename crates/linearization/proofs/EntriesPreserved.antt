-- Each change of memory keeps what is known of the entries.
use Rattle.std.proofs.Common.{◌≡◌, ℕ, ◌+◌, ◌<◌, ◌≤◌, Bool, true, false, ◌≢◌, Some, None, Option, arith}
use Rattle.promise.specs.Maps.{put}
use Rattle.promise.proofs.MapLaws.{put-tells}
use Rattle.machine.specs.declared.entry.OrderKind.{OrderKind}
use Rattle.machine.specs.Accesses.{described, named}
use Rattle.machine.specs.Memory.{Memory, with_entry}
use Rattle.linearization.proofs.Ghosts.{Ghost, put2, is_pending, kind_of, node_of, phase_of}
use Rattle.linearization.proofs.GhostLaws.{put2-tells}
use Rattle.linearization.proofs.MemoryInvariant.{Entries, ChainOf, EntriesOf}
use Rattle.linearization.proofs.Transitions.{Linked, Passed, Unlinked}

module _ {T : Type 0} (m : Memory) (g : Ghost T) (c : ChainOf m g) (d : EntriesOf m g) where
  -- a worker announces its order
  pub entries-announced : (u q : ℕ) (e : OrderKind) (own : Option ℕ) → is_pending m u ≡ false → Linked m g u → Passed m g u → (e ≡ OrderKind.Post → (own ≡ Some (named own)) × Unlinked m g u (named own)) → (e ≡ OrderKind.Fetch → own ≡ None) → phase_of m u < q → EntriesOf (with_entry m u (described q true e own)) g
  entries-announced u q e own s l p po fe hi =
      record {
        claimed = λ j a. grind (arith, put-tells, d.claimed j a, p m.head);
        behind = λ z a. grind (arith, put-tells, d.behind z a, l z a);
        posts = λ j z a b i. grind (arith, put-tells, d.posts j z, po);
        post_node = λ j a b i. grind (arith, put-tells, d.post_node j, po);
        fetches = λ j z a b i. grind (arith, put-tells, d.fetches j z, fe);
        helpers = λ j i. grind (arith, put-tells, d.helpers j i);
      }

  -- an entry is written that is not pending after, with the kind and node that it had
  pub entries-done : (k f : ℕ) (e : OrderKind) (o : Option ℕ) → phase_of m k ≡ f → kind_of m k ≡ e → node_of m k ≡ o → EntriesOf (with_entry m k (described f false e o)) g
  entries-done k f e o ph ki nd =
      record {
        claimed = λ j a. grind (arith, put-tells, d.claimed j a);
        behind = λ z a. grind (arith, put-tells, d.behind z a);
        posts = λ j z a b i. grind (arith, put-tells, d.posts j z);
        post_node = λ j a b i. grind (arith, put-tells, d.post_node j);
        fetches = λ j z a b i. grind (arith, put-tells, d.fetches j z);
        helpers = λ j i. grind (arith, put-tells, d.helpers j i);
      }

  -- a fetch's entry, which does not name head's node, names another node or none
  pub entries-named : (k f : ℕ) (b : Bool) (o : Option ℕ) → phase_of m k ≡ f → kind_of m k ≡ OrderKind.Fetch → node_of m k ≢ Some m.head → ((h : ℕ) → o ≡ Some h → (0 < g.position h) × (g.position h ≤ g.position m.head) × (g.position h < g.position m.tail)) → EntriesOf (with_entry m k (described f b OrderKind.Fetch o)) g
  entries-named k f b o ph ki nd at =
      record {
        claimed = λ j a. grind (arith, put-tells, d.claimed j a);
        behind = λ z a. grind (arith, put-tells, d.behind z a);
        posts = λ j z a b i. grind (arith, put-tells, d.posts j z);
        post_node = λ j a b i. grind (arith, put-tells, d.post_node j);
        fetches = λ j z a b i. grind (arith, put-tells, d.fetches j z, at z);
        helpers = λ j i. grind (arith, put-tells, d.helpers j i);
      }

  -- k's node x is linked
  pub entries-linked : (k x : ℕ) → g.position m.tail ≡ g.last → g.position x ≡ 0 → is_pending m k ≡ true → kind_of m k ≡ OrderKind.Post → node_of m k ≡ Some x → Entries m.entry m.poster m.taker m.head m.tail (put g.position x (g.last + 1)) g.used g.helped
  entries-linked k x h z a ki b =
      let w = d.posts k x a ki b in
      record {
        claimed = d.claimed;
        behind = λ y i. grind (arith, put-tells, c.short y, c.tail_in, w);
        posts = λ j y p r q. grind (arith, put-tells, d.posts j y p r q, c.short y, c.tail_in, w);
        post_node = d.post_node;
        fetches = λ j y p r q. grind (arith, put-tells, d.fetches j y p r q, c.tail_in, c.head_in);
        helpers = d.helpers;
      }

  -- tail moves past a post that is done
  pub entries-tail : (y : ℕ) → m.successor m.tail ≡ Some y → is_pending m (m.poster y) ≡ false → Entries m.entry m.poster m.taker m.head y g.position g.used g.helped
  entries-tail y e s =
      let n = c.next m.tail y e in
      record {
        claimed = d.claimed;
        behind = λ z h. grind (arith, c.short z, c.tail_near);
        posts = λ k x p r q. grind (arith, d.posts k x p r q, c.inverse x, c.inverse y);
        post_node = d.post_node;
        fetches = λ k x p r q. let a = d.fetches k x p r q in (a.0, a.1, omega arith);
        helpers = d.helpers;
      }

  -- the fetch of k, which names head's node, becomes its taker
  pub entries-taken : (k : ℕ) → kind_of m k ≡ OrderKind.Fetch → node_of m k ≡ Some m.head → Entries m.entry m.poster (put m.taker m.head (Some k)) m.head m.tail g.position g.used g.helped
  entries-taken k ki nd =
      record {
        claimed = λ j i. grind (arith, put-tells, d.claimed j);
        behind = d.behind;
        posts = d.posts;
        post_node = d.post_node;
        fetches = d.fetches;
        helpers = d.helpers;
      }

  -- head moves on, to a node that has no taker
  pub entries-head : (x : ℕ) → m.successor m.head ≡ Some x → Entries m.entry m.poster m.taker x m.tail g.position g.used g.helped
  entries-head x e =
      let n = c.next m.head x e in
      record {
        claimed = λ j i. let a = c.taker_low x j i in let z : ⊥ = omega arith in absurd z;
        behind = d.behind;
        posts = d.posts;
        post_node = d.post_node;
        fetches = λ j y r q o. let a = d.fetches j y r q o in (a.0, omega arith, a.2);
        helpers = d.helpers;
      }

  -- j sets out to help k
  pub entries-helped : (k j : ℕ) → Entries m.entry m.poster m.taker m.head m.tail g.position g.used (put2 g.helped k j (phase_of m j))
  entries-helped k j =
      record {
        claimed = d.claimed;
        behind = d.behind;
        posts = d.posts;
        post_node = d.post_node;
        fetches = d.fetches;
        helpers = λ a b. grind (arith, put2-tells, d.helpers a b);
      }

  -- a post of w takes a fresh node
  pub entries-supplied : (w j : ℕ) → g.used j ≡ false → Entries m.entry (put m.poster j w) m.taker m.head m.tail g.position (put g.used j true) g.helped
  entries-supplied w j f =
      record {
        claimed = d.claimed;
        behind = λ y i. grind (arith, put-tells, d.behind y i, c.known y);
        posts = λ k y p r q. grind (arith, put-tells, d.posts k y p r q);
        post_node = d.post_node;
        fetches = d.fetches;
        helpers = d.helpers;
      }
