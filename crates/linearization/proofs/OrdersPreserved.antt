-- Each change of memory and of the abstract line keeps what is known of the orders.
use Rattle.std.proofs.Common.{◌≡◌, ℕ, ◌+◌, ◌<◌, true, false, ◌≢◌, List, [], ◌∷◌, ◌++◌, Some, None, Option, sym, refl, ap, ◌∙◌, arith}
use Rattle.vocabulary.specs.declared.kind.Kind.{Kind}
use Rattle.promise.specs.AbstractLine.{Given, Open}
use Rattle.promise.specs.Events.{Asked}
use Rattle.promise.specs.Maps.{put}
use Rattle.promise.proofs.MapLaws.{put_same, put_other, put-tells}
use Rattle.machine.specs.declared.entry.Descriptor.{Descriptor}
use Rattle.machine.specs.declared.entry.OrderKind.{OrderKind}
use Rattle.machine.specs.Accesses.{described, named}
use Rattle.machine.specs.Memory.{Memory, with_entry}
use Rattle.machine.specs.States.{element_of}
use Rattle.linearization.proofs.Ghosts.{Ghost, is_pending, kind_of, node_of, service_in, asked_in, as_post, service, front_of, Holds, pointed}
use Rattle.linearization.proofs.GhostLaws.{put_all, holds-append, holds_kept}
use Rattle.linearization.proofs.MemoryInvariant.{Orders, ChainOf, EntriesOf, OrdersOf}
use Rattle.linearization.proofs.Transitions.{Passed, Unlinked, AskedAs}

module _ {T : Type 0} (m : Memory) (g : Ghost T) (o : OrdersOf m g) where
  -- u announces its order, which is not served
  pub orders-announced : (u q : ℕ) (d : OrderKind) (own : Option ℕ) → Passed m g u → (d ≡ OrderKind.Post → Unlinked m g u (named own)) → g.order u ≢ None → AskedAs g u d own → service_in (g.order u) ≡ None → OrdersOf (with_entry m u (described q true d own)) g
  orders-announced u q d own past post busy asks waits =
      record {
        busy = λ j a b. grind (arith, put-tells, o.busy j, busy);
        asks_post = λ j z a b i. grind (arith, put-tells, o.asks_post j z, asks.post);
        asks_fetch = λ j a b. grind (arith, put-tells, o.asks_fetch j, asks.fetch);
        post_waits = λ j z a b i e. grind (arith, put-tells, o.post_waits j z);
        post_served = λ j z a b i e. grind (arith, put-tells, o.post_served j z, asks.post, post);
        fetch_waits = λ j a b e. grind (arith, put-tells, o.fetch_waits j);
        fetch_served = λ j a e. grind (arith, put-tells, o.fetch_served j, past m.head);
        held = o.held;
        fresh = o.fresh;
        supply = o.supply;
      }

  -- an entry is written that is not pending after
  pub orders-done : (k : ℕ) (d : Descriptor) → d.pending ≡ false → OrdersOf (with_entry m k d) g
  orders-done k d off =
      record {
        busy = λ j a b. grind (arith, put-tells, o.busy j);
        asks_post = λ j z a b i. grind (arith, put-tells, o.asks_post j z);
        asks_fetch = λ j a b. grind (arith, put-tells, o.asks_fetch j);
        post_waits = λ j z a b i e. grind (arith, put-tells, o.post_waits j z);
        post_served = λ j z a b i e. grind (arith, put-tells, o.post_served j z);
        fetch_waits = λ j a b e. grind (arith, put-tells, o.fetch_waits j);
        fetch_served = λ j a e. grind (arith, put-tells, o.fetch_served j);
        held = o.held;
        fresh = o.fresh;
        supply = o.supply;
      }

  -- a pending fetch's entry names another node
  pub orders-named : (k f : ℕ) (x : Option ℕ) → is_pending m k ≡ true → kind_of m k ≡ OrderKind.Fetch → OrdersOf (with_entry m k (described f true OrderKind.Fetch x)) g
  orders-named k f x p ki =
      record {
        busy = λ j a b. grind (arith, put-tells, o.busy j);
        asks_post = λ j z a b i. grind (arith, put-tells, o.asks_post j z);
        asks_fetch = λ j a b. grind (arith, put-tells, o.asks_fetch j);
        post_waits = λ j z a b i e. grind (arith, put-tells, o.post_waits j z);
        post_served = λ j z a b i e. grind (arith, put-tells, o.post_served j z);
        fetch_waits = λ j a b e. grind (arith, put-tells, o.fetch_waits j);
        fetch_served = λ j a e. grind (arith, put-tells, o.fetch_served j);
        held = o.held;
        fresh = o.fresh;
        supply = o.supply;
      }

  -- the order of a worker that is not pending changes
  pub orders-changed : (w : ℕ) (q : Option (Open T)) → is_pending m w ≡ false → Orders m.entry m.successor m.taker m.head g.position g.node_at g.last g.used g.element g.queue (put g.order w q)
  orders-changed w q s =
      record {
        busy = λ j a b. grind (arith, put-tells, o.busy j);
        asks_post = λ j z a b i. grind (arith, put-tells, o.asks_post j z);
        asks_fetch = λ j a b. grind (arith, put-tells, o.asks_fetch j);
        post_waits = λ j z a b i e. grind (arith, put-tells, o.post_waits j z);
        post_served = λ j z a b i e. grind (arith, put-tells, o.post_served j z);
        fetch_waits = λ j a b e. grind (arith, put-tells, o.fetch_waits j);
        fetch_served = λ j a e. grind (arith, put-tells, o.fetch_served j);
        held = o.held;
        fresh = o.fresh;
        supply = o.supply;
      }

  -- a pending fetch finds nothing, and is done
  pub orders-empty : (k : ℕ) (d : Descriptor) (q : Option (Open T)) → d.pending ≡ false → Orders (with_entry m k d).entry m.successor m.taker m.head g.position g.node_at g.last g.used g.element g.queue (put g.order k q)
  orders-empty k d q off =
      record {
        busy = λ j a b. grind (arith, put-tells, o.busy j);
        asks_post = λ j z a b i. grind (arith, put-tells, o.asks_post j z);
        asks_fetch = λ j a b. grind (arith, put-tells, o.asks_fetch j);
        post_waits = λ j z a b i e. grind (arith, put-tells, o.post_waits j z);
        post_served = λ j z a b i e. grind (arith, put-tells, o.post_served j z);
        fetch_waits = λ j a b e. grind (arith, put-tells, o.fetch_waits j);
        fetch_served = λ j a e. grind (arith, put-tells, o.fetch_served j);
        held = o.held;
        fresh = o.fresh;
        supply = o.supply;
      }

-- an order that gets a point goes on asking the same
asked-pointed : {T : Type 0} (q : Option (Open T)) (o : Open T) (v : Given T) → q ≡ Some o → asked_in (pointed o v) ≡ asked_in q
asked-pointed q o v e = sym (ap asked_in e)

module _ {T : Type 0} (m : Memory) (g : Ghost T) (c : ChainOf m g) (d : EntriesOf m g) (o : OrdersOf m g) where
  -- k's node x, with the element y, is linked after the last node l
  module _ (k l x : ℕ) (a : Open T) (y : T) (t : ℕ) (last-l : g.position l ≡ g.last) (at-end : g.position m.tail ≡ g.last) (loose : g.position x ≡ 0)
      (pends : is_pending m k ≡ true) (kind : kind_of m k ≡ OrderKind.Post) (node : node_of m k ≡ Some x) (order : g.order k ≡ Some a) (element : g.element x ≡ Some y) where
    abbrev given : Given T
    given = record { number = t; kind = Kind.Post; element = None }

    -- a successor that head's taker waits for is not the new one
    head-before : (j : ℕ) → m.taker m.head ≡ Some j → put m.successor l (Some x) m.head ≡ m.successor m.head
    head-before j e = let b = c.taker_low m.head j e in put_other _ l _ m.head (λ q. let z = ap g.position q in let y : ⊥ = omega arith in absurd y)

    held-linked : Holds (put g.node_at (g.last + 1) x) g.element (front_of (m.taker m.head) (put g.position x (g.last + 1) m.head)) (g.last + 1 + 1) (g.queue ++ y ∷ [])
    held-linked =
        let h = c.head_in in
        let s : put g.position x (g.last + 1) m.head ≡ g.position m.head = grind (arith, put-tells) in
        rw s (holds-append _ _ (rw put_same element) (holds_kept _ _ _ _ (λ j z b e. ap g.element (put_other g.node_at (g.last + 1) x j (λ q. omega arith)) ∙ e) o.held))

    pub orders-linked : Orders m.entry (put m.successor l (Some x)) m.taker m.head (put g.position x (g.last + 1)) (put g.node_at (g.last + 1) x) (g.last + 1) g.used g.element (g.queue ++ y ∷ []) (put g.order k (pointed a given))
    orders-linked =
        record {
          busy = λ j p b. grind (arith, put-tells, o.busy j);
          asks_post = λ j z. put_all (λ j q. is_pending m j ≡ true → kind_of m j ≡ OrderKind.Post → node_of m j ≡ Some z → asked_in q ≡ as_post (g.element z)) g.order k _ (λ p b e. asked-pointed _ a given order ∙ o.asks_post k z p b e) (λ j n. o.asks_post j z) j;
          asks_fetch = λ j. put_all (λ j q. is_pending m j ≡ true → kind_of m j ≡ OrderKind.Fetch → asked_in q ≡ Some Asked.fetch) g.order k _ (λ p b. asked-pointed _ a given order ∙ o.asks_fetch k p b) (λ j n. o.asks_fetch j) j;
          post_waits = λ j z. put_all (λ j q. is_pending m j ≡ true → kind_of m j ≡ OrderKind.Post → node_of m j ≡ Some z → put g.position x (g.last + 1) z ≡ 0 → service_in q ≡ None) g.order k _ (λ p b e f. grind (arith, put-tells)) (λ j n p b e f. grind (arith, put-tells, o.post_waits j z)) j;
          post_served = λ j z. put_all (λ j q. is_pending m j ≡ true → kind_of m j ≡ OrderKind.Post → node_of m j ≡ Some z → 0 < put g.position x (g.last + 1) z → service_in q ≡ service Kind.Post None) g.order k _ (λ p b e f. refl) (λ j n p b e f. grind (arith, put-tells, o.post_served j z, d.posts j z p b e, d.posts k x pends kind node)) j;
          fetch_waits = λ j. put_all (λ j q. is_pending m j ≡ true → kind_of m j ≡ OrderKind.Fetch → m.taker m.head ≢ Some j → service_in q ≡ None) g.order k _ (λ p b e. grind arith) (λ j n. o.fetch_waits j) j;
          fetch_served = λ j. put_all (λ j q. is_pending m j ≡ true → m.taker m.head ≡ Some j → service_in q ≡ service Kind.Fetch (element_of g.element (put m.successor l (Some x) m.head))) g.order k _ (λ p e. let b = d.claimed k e in grind arith) (λ j n p e. rw (head-before j e) (o.fetch_served j p e)) j;
          held = held-linked;
          fresh = o.fresh;
          supply = o.supply;
        }

  -- k becomes the taker of head's node, and gets y, the element of its successor x
  pub orders-taken : (k : ℕ) (a : Open T) (x : ℕ) (y : T) (rest : List T) (t : ℕ) → m.taker m.head ≡ None → kind_of m k ≡ OrderKind.Fetch → g.order k ≡ Some a → m.successor m.head ≡ Some x → g.element x ≡ Some y → Holds g.node_at g.element (g.position m.head + 2) (g.last + 1) rest
      → Orders m.entry m.successor (put m.taker m.head (Some k)) m.head g.position g.node_at g.last g.used g.element rest (put g.order k (pointed a (record { number = t; kind = Kind.Fetch; element = Some y })))
  orders-taken k a x y rest t free kind order next element held =
      record {
        busy = λ j p b. grind (arith, put-tells, o.busy j);
        asks_post = λ j z. put_all (λ j q. is_pending m j ≡ true → kind_of m j ≡ OrderKind.Post → node_of m j ≡ Some z → asked_in q ≡ as_post (g.element z)) g.order k _ (λ p b e. asked-pointed (g.order k) a (record { number = t; kind = Kind.Fetch; element = Some y }) order ∙ o.asks_post k z p b e) (λ j n. o.asks_post j z) j;
        asks_fetch = λ j. put_all (λ j q. is_pending m j ≡ true → kind_of m j ≡ OrderKind.Fetch → asked_in q ≡ Some Asked.fetch) g.order k _ (λ p b. asked-pointed (g.order k) a (record { number = t; kind = Kind.Fetch; element = Some y }) order ∙ o.asks_fetch k p b) (λ j n. o.asks_fetch j) j;
        post_waits = λ j z. put_all (λ j q. is_pending m j ≡ true → kind_of m j ≡ OrderKind.Post → node_of m j ≡ Some z → g.position z ≡ 0 → service_in q ≡ None) g.order k _ (λ p b e f. grind arith) (λ j n. o.post_waits j z) j;
        post_served = λ j z. put_all (λ j q. is_pending m j ≡ true → kind_of m j ≡ OrderKind.Post → node_of m j ≡ Some z → 0 < g.position z → service_in q ≡ service Kind.Post None) g.order k _ (λ p b e f. grind arith) (λ j n. o.post_served j z) j;
        fetch_waits = λ j. put_all (λ j q. is_pending m j ≡ true → kind_of m j ≡ OrderKind.Fetch → put m.taker m.head (Some k) m.head ≢ Some j → service_in q ≡ None) g.order k _ (λ p b e. absurd (e (put_same _ _ _))) (λ j n p b e. grind (arith, o.fetch_waits j)) j;
        fetch_served = λ j. put_all (λ j q. is_pending m j ≡ true → put m.taker m.head (Some k) m.head ≡ Some j → service_in q ≡ service Kind.Fetch (element_of g.element (m.successor m.head))) g.order k _ (λ p e. rw (next, element) refl) (λ j n p e. grind (arith, put_same m.taker m.head (Some k))) j;
        held = rw put_same held;
        fresh = o.fresh;
        supply = o.supply;
      }

  -- head moves on; its taker is not pending
  pub orders-head : (k x : ℕ) → m.successor m.head ≡ Some x → m.taker m.head ≡ Some k → is_pending m k ≡ false → Orders m.entry m.successor m.taker x g.position g.node_at g.last g.used g.element g.queue g.order
  orders-head k x next taker silent =
      let n = c.next m.head x next in
      record {
        busy = o.busy;
        asks_post = o.asks_post;
        asks_fetch = o.asks_fetch;
        post_waits = o.post_waits;
        post_served = o.post_served;
        fetch_waits = λ j p b e. grind (arith, o.fetch_waits j p b);
        fetch_served = λ j p e. let b = c.taker_low x j e in let z : ⊥ = omega arith in absurd z;
        held = same-front (m.taker x) refl (rw taker at o.held);
        fresh = o.fresh;
        supply = o.supply;
      }
    where
      same-front : (q : Option ℕ) → m.taker x ≡ q → Holds g.node_at g.element (g.position m.head + 2) (g.last + 1) g.queue → Holds g.node_at g.element (front_of q (g.position x)) (g.last + 1) g.queue
      same-front None e h = let n = c.next m.head x next in let f : g.position x + 1 ≡ g.position m.head + 2 = omega arith in rw f h
      same-front (Some j) e h = let n = c.next m.head x next in let b = c.taker_low x j e in let z : ⊥ = omega arith in absurd z

  -- a post takes the fresh node j for y
  pub orders-supplied : (j : ℕ) (y : T) → j ≢ 0 → g.used j ≡ false → Orders m.entry m.successor m.taker m.head g.position g.node_at g.last (put g.used j true) (put g.element j (Some y)) g.queue g.order
  orders-supplied j y z f =
      record {
        busy = o.busy;
        asks_post = λ k x p b e. let w = d.posts k x p b e in o.asks_post k x p b e ∙ ap as_post (sym (put_other _ j _ x (λ q. grind arith)));
        asks_fetch = o.asks_fetch;
        post_waits = o.post_waits;
        post_served = o.post_served;
        fetch_waits = o.fetch_waits;
        fetch_served = λ k p e. o.fetch_served k p e ∙ ap (λ q. service Kind.Fetch q) (sym (other-element (m.successor m.head) refl));
        held = holds_kept _ _ _ _ (λ i x b e. let q = o.fresh j f in grind (arith, put-tells)) o.held;
        fresh = λ i e. grind (arith, put-tells, o.fresh i);
        supply = λ i n e. grind (arith, put-tells, o.supply i);
      }
    where
      other-element : (q : Option ℕ) → m.successor m.head ≡ q → element_of (put g.element j (Some y)) q ≡ element_of g.element q
      other-element None e = refl
      other-element (Some x) e = let n = c.next m.head x e in let w = c.known x (omega arith) in put_other _ j _ x (λ q. grind arith)
