-- What each transition leaves to the others, of the orders.
use Rattle.std.proofs.Common.{◌≡◌, ℕ, ◌<◌, true, false, ◌≢◌, Some, None, Option, sym, refl, ap, ◌∙◌, subst, arith}
use Rattle.vocabulary.specs.declared.kind.Kind.{Kind}
use Rattle.promise.specs.AbstractLine.{Given, Open}
use Rattle.promise.specs.Maps.{put}
use Rattle.promise.proofs.MapLaws.{put_same, put_other, put-tells}
use Rattle.machine.specs.declared.entry.OrderKind.{OrderKind}
use Rattle.machine.specs.Accesses.{described}
use Rattle.machine.specs.Memory.{Memory, with_entry}
use Rattle.machine.specs.States.{element_of}
use Rattle.linearization.proofs.Ghosts.{Ghost, is_pending, kind_of, node_of, service_in, service, asked_in, placing_in, pointed, found_empty}
use Rattle.linearization.proofs.GhostLaws.{put_all}
use Rattle.linearization.proofs.MemoryInvariant.{ChainOf, OrdersOf}
use Rattle.linearization.proofs.Relies.{OrderRely, FetchServed}

module _ {T : Type 0} (u v : ℕ) (m : Memory) (g : Ghost T) where
  -- no entry ceases to be pending
  pub order-rely-pending : (m' : Memory) (g' : Ghost T) → ((w : ℕ) → w ≢ u → is_pending m w ≡ true → is_pending m' w ≡ true)
      → ((x : ℕ) → g.used x ≡ true → g'.element x ≡ g.element x) → ((k : ℕ) → k ≢ u → is_pending m k ≡ false → g'.order k ≡ g.order k)
      → ((k : ℕ) → is_pending m k ≡ true → (asked_in (g'.order k) ≡ asked_in (g.order k)) × (placing_in (g'.order k) ≡ placing_in (g.order k)))
      → ((w : ℕ) → w ≢ v → g'.saw w ≡ g.saw w) → OrderRely u v m g m' g'
  order-rely-pending m' g' stays elements settled asking marks =
      record {
        elements = elements;
        settled = settled;
        asking = asking;
        post_done = λ w a b p q. let z = stays w a p in grind arith;
        fetch_done = λ w a b p q. let z = stays w a p in record { nothing = λ e. grind arith; something = λ x e. let y : ⊥ = grind arith in absurd y };
        marks = marks;
      }

  -- an order gets a point, and all entries stay
  pub order-rely-pointed : (m' : Memory) (g' : Ghost T) (k : ℕ) (o : Open T) (f : Given T) → m'.entry ≡ m.entry → is_pending m k ≡ true → g.order k ≡ Some o
      → g'.element ≡ g.element → g'.order ≡ put g.order k (pointed o f) → g'.saw ≡ g.saw → OrderRely u v m g m' g'
  order-rely-pointed m' g' k o f entry p e element order saw =
      order-rely-pending m' g' (λ w a b. ap (λ e. (e w).descriptor.pending) entry ∙ b) (λ x i. ap (λ e. e x) element)
      (λ j a b. ap (λ e. e j) order ∙ put_other _ k _ j (λ q. let z = ap (is_pending m) q in grind arith))
      (λ j i. let z = ap (λ e. e j) order in subst (λ q. (asked_in q ≡ asked_in (g.order j)) × (placing_in q ≡ placing_in (g.order j))) (sym z) (same j))
      (λ w a. ap (λ e. e w) saw)
    where
      same : (j : ℕ) → (asked_in (put g.order k (pointed o f) j) ≡ asked_in (g.order j)) × (placing_in (put g.order k (pointed o f) j) ≡ placing_in (g.order j))
      same j = put_all (λ j q. (asked_in q ≡ asked_in (g.order j)) × (placing_in q ≡ placing_in (g.order j))) g.order k _ (sym (ap asked_in e), sym (ap placing_in e)) (λ i n. (refl, refl)) j

  -- a post whose node is linked is finished
  pub order-rely-finished : OrdersOf m g → (k y f : ℕ) (x : Option ℕ) → kind_of m k ≡ OrderKind.Post → node_of m k ≡ Some y → 0 < g.position y → OrderRely u v m g (with_entry m k (described f false OrderKind.Post x)) g
  order-rely-finished o k y f x ki nd lo =
      record {
        elements = λ x i. refl;
        settled = λ j a b. refl;
        asking = λ j i. (refl, refl);
        post_done = λ w a b p q. grind (arith, put-tells, o.post_served k y);
        fetch_done = λ w a b p q. let z : ⊥ = grind (arith, put-tells) in absurd z;
        marks = λ w a. refl;
      }

  -- the fetch of head's taker is settled
  pub order-rely-settled : ChainOf m g → OrdersOf m g → (k h f : ℕ) (x : Option ℕ) → node_of m k ≡ x → x ≡ Some h → m.taker h ≡ Some k → (is_pending m k ≡ true → m.head ≡ h) → kind_of m k ≡ OrderKind.Fetch → OrderRely u v m g (with_entry m k (described f false OrderKind.Fetch x)) g
  order-rely-settled c o k h f x nd is ta he ki =
      record {
        elements = λ x i. refl;
        settled = λ j a b. refl;
        asking = λ j i. (refl, refl);
        post_done = λ w a b p q. let z : ⊥ = grind (arith, put-tells) in absurd z;
        fetch_done = λ w a b p q. served w p (grind (arith, put-tells));
        marks = λ w a. refl;
      }
    where
      after : ((with_entry m k (described f false OrderKind.Fetch x)).entry k).descriptor.node ≡ x
      after = grind (arith, put-tells)

      next : (w : ℕ) → is_pending m w ≡ true → w ≡ k → m.successor h ≢ None
      next w p e n = let b = c.taker_low h k ta in let d = c.end h b.0 n in omega (arith, c.short m.tail)

      served : (w : ℕ) → is_pending m w ≡ true → w ≡ k → FetchServed (with_entry m k (described f false OrderKind.Fetch x)) g w
      served w p e =
          let i : is_pending m k ≡ true = ap (is_pending m) (sym e) ∙ p in
          let j = he i in
          let s = o.fetch_served k i (ap m.taker j ∙ ta) in
          subst (λ z. FetchServed (with_entry m k (described f false OrderKind.Fetch x)) g z) (sym e)
          (record {
            nothing = λ a. let z = sym after ∙ a in let y : ⊥ = grind arith in absurd y;
            something = λ y a. let z : y ≡ h = grind (arith, after) in subst (λ z. (service_in (g.order k) ≡ service Kind.Fetch (element_of g.element (m.successor z))) × (m.successor z ≢ None)) (sym z) (subst (λ z. service_in (g.order k) ≡ service Kind.Fetch (element_of g.element (m.successor z))) j s, next w p e);
          })

  -- a pending fetch finds nothing
  pub order-rely-empty : (k f : ℕ) (o : Open T) (e : ℕ) → is_pending m k ≡ true → kind_of m k ≡ OrderKind.Fetch → g.order k ≡ Some o → OrderRely u v m g (with_entry m k (described f false OrderKind.Fetch None)) (found_empty g k o v e)
  order-rely-empty k f o e p ki oo =
      record {
        elements = λ x i. refl;
        settled = λ j a b. put_other _ k _ j (λ q. let z = ap (is_pending m) q in grind arith);
        asking = λ j i. put_all (λ j q. (asked_in q ≡ asked_in (g.order j)) × (placing_in q ≡ placing_in (g.order j))) g.order k _ (sym (ap asked_in oo), sym (ap placing_in oo)) (λ i n. (refl, refl)) j;
        post_done = λ w a b q r. let z : ⊥ = grind (arith, put-tells) in absurd z;
        fetch_done = λ w a b q r. let z : w ≡ k = grind (arith, put-tells) in subst (λ z. FetchServed (with_entry m k (described f false OrderKind.Fetch None)) (found_empty g k o v e) z) (sym z) (record { nothing = λ i. ap service_in (put_same _ k _); something = λ x i. let y : ⊥ = grind (arith, put-tells) in absurd y });
        marks = λ w a. put_other _ v _ w a;
      }
