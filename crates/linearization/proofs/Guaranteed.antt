-- Each transition leaves to the others what they rely on; and so do placing an order and ending one.
use Rattle.std.proofs.Common.{◌≡◌, ℕ, ◌+◌, ◌<◌, Bool, true, false, Some, None, Option, sym, refl, ap, ◌∙◌, arith}
use Rattle.promise.specs.AbstractLine.{Open}
use Rattle.promise.specs.Events.{Asked, Point}
use Rattle.promise.specs.Maps.{put}
use Rattle.promise.proofs.MapLaws.{put_other, put-tells}
use Rattle.machine.specs.declared.entry.Descriptor.{Descriptor}
use Rattle.machine.specs.declared.entry.OrderKind.{OrderKind}
use Rattle.machine.specs.Accesses.{described}
use Rattle.machine.specs.Memory.{Memory, with_entry}
use Rattle.linearization.proofs.Ghosts.{Ghost, Write, written, with_poster, is_pending, kind_of, node_of, phase_of, asked_in, placing_in, placed, supplied, ended}
use Rattle.linearization.proofs.GhostLaws.{put2-tells}
use Rattle.linearization.proofs.Guarantees.{chain-rely-same, chain-rely-linked, chain-rely-taken, chain-rely-moved, chain-rely-supplied, entry-rely-same, entry-rely-announced, Rewrites, entry-rely-rewritten}
use Rattle.linearization.proofs.MemoryInvariant.{ChainOf, EntriesOf, OrdersOf, MemoryInvariant}
use Rattle.linearization.proofs.OrderGuarantees.{order-rely-pending, order-rely-pointed, order-rely-finished, order-rely-settled, order-rely-empty}
use Rattle.linearization.proofs.Preserved.{not-linked}
use Rattle.linearization.proofs.Relies.{ChainRelyOf, OrderRely, Rely}
use Rattle.linearization.proofs.Transitions.{Transition}

-- what the four writings of an entry by helpers have in common
module _ {T : Type 0} (m : Memory) (g : Ghost T) (c : ChainOf m g) (d : EntriesOf m g) where
  finishes-rewrites : (k y f : ℕ) (o : Option ℕ) → phase_of m k ≡ f → kind_of m k ≡ OrderKind.Post → node_of m k ≡ Some y → o ≡ Some y → 0 < g.position y → Rewrites m g k (described f false OrderKind.Post o)
  finishes-rewrites k y f o ph ki nd is lo =
      record {
        phase = sym ph;
        kind = sym ki;
        pends = λ i. grind arith;
        post_done = λ i. (refl, is ∙ sym nd);
        post_linked = λ x i j. grind arith;
        taker_done = λ i. refl;
        fetch_taken = λ x i j e. grind arith;
        done = λ i. (refl, is ∙ sym nd);
        claimed = λ x i j a e. grind arith;
      }

  settles-rewrites : (k h f : ℕ) (o : Option ℕ) → phase_of m k ≡ f → kind_of m k ≡ OrderKind.Fetch → node_of m k ≡ o → o ≡ Some h → m.taker h ≡ Some k → Rewrites m g k (described f false OrderKind.Fetch o)
  settles-rewrites k h f o ph ki nd is ta =
      record {
        phase = sym ph;
        kind = sym ki;
        pends = λ i. grind arith;
        post_done = λ i. (refl, sym nd);
        post_linked = λ x i j. grind arith;
        taker_done = λ i. refl;
        fetch_taken = λ x i j e n. grind arith;
        done = λ i. (refl, sym nd);
        claimed = λ x i j a e. grind arith;
      }

  -- the entry of a pending fetch does not name head's node
  names-rewrites : (k f : ℕ) (b : Bool) (o : Option ℕ) → is_pending m k ≡ true → kind_of m k ≡ OrderKind.Fetch → phase_of m k ≡ f → ((x : ℕ) → node_of m k ≡ Some x → g.position x < g.position m.head) → (b ≡ false → o ≡ None) → Rewrites m g k (described f b OrderKind.Fetch o)
  names-rewrites k f b o p ki ph be fa =
      record {
        phase = sym ph;
        kind = sym ki;
        pends = λ i. p;
        post_done = λ i. let z : ⊥ = grind arith in absurd z;
        post_linked = λ x i j. grind arith;
        taker_done = λ i. let a = d.claimed k i in let e = be m.head a.1 in let z : ⊥ = omega arith in absurd z;
        fetch_taken = λ x i j e n. let a = d.fetches k x p ki e in c.passed x a.0 (be x e) n;
        done = λ i. let z : ⊥ = grind arith in absurd z;
        claimed = λ x i j a e. let z = fa a in grind arith;
      }

module _ {T : Type 0} {m : Memory} {g : Ghost T} (i : MemoryInvariant m g) where
  abbrev c : ChainOf m g
  c = i.chain

  abbrev d : EntriesOf m g
  d = i.entries

  abbrev o : OrdersOf m g
  o = i.orders

  -- an entry is written by a helper
  rely-rewritten : (n u v k : ℕ) (f : Descriptor) (g' : Ghost T) → Rewrites m g k f → ChainRelyOf m g (with_entry m k f) g' → g'.position ≡ g.position → g'.helped ≡ g.helped → OrderRely u v m g (with_entry m k f) g' → Rely n u v m g (with_entry m k f) g'
  rely-rewritten n u v k f g' r chain position helped orders = record { chain = chain; entries = entry-rely-rewritten n u v m g g' c d k f r (λ x. ap (λ p. p x) position) (λ a b. ap (λ h. h a b) helped); orders = orders }

  rely-nothing : (n u v : ℕ) → Rely n u v m g m g
  rely-nothing n u v =
      record {
        chain = chain-rely-same _ _ _ _ _ _ _;
        entries = entry-rely-same n u v m g m g refl (λ k a b. refl) (λ k j a. refl) (λ k j a. refl) (λ x a b. refl) (λ w a b l. l) (λ w x a b. b);
        orders = order-rely-pending u v m g m g (λ w a b. b) (λ x a. refl) (λ k a b. refl) (λ k a. (refl, refl)) (λ w a. refl);
      }

  pub guaranteed : {n u v t : ℕ} {e : Write} {p : Option Point} {g' : Ghost T} → Transition n u v t m g e p g' → Rely n u v m g (written m e) g'
  guaranteed {n = n} {u = u} {v = v} Transition.nothing = rely-nothing n u v
  guaranteed {n = n} {u = u} {v = v} {g' = g'} (Transition.sees_empty e) =
      record {
        chain = chain-rely-same _ _ _ _ _ _ _;
        entries = entry-rely-same n u v m g m g' refl (λ k a b. refl) (λ k j a. refl) (λ k j a. refl) (λ x a b. refl) (λ w a b l. l) (λ w x a b. b);
        orders = order-rely-pending u v m g m g' (λ w a b. b) (λ x a. refl) (λ k a b. refl) (λ k a. (refl, refl)) (λ w a. put_other _ v _ w a);
      }
  guaranteed {n = n} {u = u} {v = v} {g' = g'} (Transition.sets_out k p) =
      record {
        chain = chain-rely-same _ _ _ _ _ _ _;
        entries = entry-rely-same n u v m g m g' refl (λ k a b. refl) (λ a b e. grind (arith, put2-tells)) (λ a b e. grind (arith, put2-tells)) (λ x a b. refl) (λ w a b l. l) (λ w x a b. b);
        orders = order-rely-pending u v m g m g' (λ w a b. b) (λ x a. refl) (λ k a b. refl) (λ k a. (refl, refl)) (λ w a. refl);
      }
  guaranteed {n = n} {u = u} {v = v} (Transition.announces q e own un hi over) =
      record {
        chain = chain-rely-same _ _ _ _ _ _ _;
        entries = entry-rely-announced n u v m g q e own d un.silent un.linked un.passed over;
        orders = order-rely-pending u v m g _ g (λ w a b. grind (arith, put-tells)) (λ x a. refl) (λ k a b. refl) (λ k a. (refl, refl)) (λ w a. refl);
      }
  guaranteed {n = n} {u = u} {v = v} (Transition.finishes k y f x ph ki nd is lo ow) =
      rely-rewritten n u v k _ g (finishes-rewrites m g c d k y f x ph ki nd is lo) (chain-rely-same _ _ _ _ _ _ _) refl refl (order-rely-finished u v m g o k y f x ki nd lo)
  guaranteed {n = n} {u = u} {v = v} {g' = g'} (Transition.links k l x a y su en at p ki nd oo aq gi el) =
      let z = not-linked m g c d k x at p ki nd in
      let w = i.entries.posts k x p ki nd in
      let full : 0 < g.last = omega (arith, i.chain.root, i.chain.short 0) in
      record {
        chain = chain-rely-linked _ _ _ _ _ _ _ l x _ i.chain.tail_in i.chain.head_in su z;
        entries = entry-rely-same n u v m g _ g' refl (λ k a b. refl) (λ k j a. refl) (λ k j a. refl) (λ x a b. grind (arith, put-tells)) (λ j a b e y q r. grind (arith, put-tells, i.chain.short y, i.chain.tail_in)) (λ w x a b. b);
        orders = order-rely-pointed u v m g _ g' k a _ refl p oo refl refl refl;
      }
  guaranteed {n = n} {u = u} {v = v} (Transition.moves_tail y su s) =
      let nx = i.chain.next m.tail y su in
      record {
        chain = chain-rely-moved _ _ _ _ _ _ _ y m.head (omega arith) (omega arith);
        entries = entry-rely-same n u v m g _ g refl (λ k a b. refl) (λ k j a. refl) (λ k j a. refl) (λ x a b. refl) (λ w a b l z e q. let b = i.chain.short z in let f = i.chain.tail_near in omega arith) (λ w x a b. b);
        orders = order-rely-pending u v m g _ g (λ w a b. b) (λ x a. refl) (λ k a b. refl) (λ k a. (refl, refl)) (λ w a. refl);
      }
  guaranteed {n = n} {u = u} {v = v} (Transition.names_node k h f p ki ph be ho lo ne) =
      rely-rewritten n u v k _ g (names-rewrites m g c d k f true (Some h) p ki ph (λ x e. let b = be x e in omega arith) (λ e. grind arith)) (chain-rely-same _ _ _ _ _ _ _) refl refl
      (order-rely-pending u v m g _ g (λ w a b. grind (arith, put-tells)) (λ x a. refl) (λ k a b. refl) (λ k a. (refl, refl)) (λ w a. refl))
  guaranteed {n = n} {u = u} {v = v} {g' = g'} (Transition.finds_empty k f a e p ki ph be oo aq gi sa pl) =
      rely-rewritten n u v k _ g' (names-rewrites m g c d k f false None p ki ph be (λ e. refl)) (chain-rely-same _ _ _ _ _ _ _) refl refl (order-rely-empty u v m g k f a e p ki oo)
  guaranteed {n = n} {u = u} {v = v} {g' = g'} (Transition.takes k a x y rest fr p ki nd oo aq gi su el qu ho) =
      record {
        chain = chain-rely-taken _ _ _ _ _ _ _ k fr;
        entries = entry-rely-same n u v m g _ g' refl (λ k a b. refl) (λ k j a. refl) (λ k j a. refl) (λ x a b. refl) (λ w a b l. l) (λ w x a b. grind (arith, put-tells));
        orders = order-rely-pointed u v m g _ g' k a _ refl p oo refl refl refl;
      }
  guaranteed {n = n} {u = u} {v = v} (Transition.settles k h f x ph ki nd is ta he) =
      rely-rewritten n u v k _ g (settles-rewrites m g c d k h f x ph ki nd is ta) (chain-rely-same _ _ _ _ _ _ _) refl refl (order-rely-settled u v m g c o k h f x nd is ta he ki)
  guaranteed {n = n} {u = u} {v = v} (Transition.moves_head k x su ta s) =
      let nx = i.chain.next m.head x su in
      record {
        chain = chain-rely-moved _ _ _ _ _ _ _ m.tail x (omega arith) (omega arith);
        entries = entry-rely-same n u v m g _ g refl (λ j a b. let z : ⊥ = grind arith in absurd z) (λ k j a. refl) (λ k j a. refl) (λ x a b. refl) (λ w a b l. l) (λ w x a b. b);
        orders = order-rely-pending u v m g _ g (λ w a b. b) (λ x a. refl) (λ k a b. refl) (λ k a. (refl, refl)) (λ w a. refl);
      }

  -- the order of a worker that is not pending changes: it is placed, or it ends
  rely-changed : (n w : ℕ) (g' : Ghost T) (q : Option (Open T)) → is_pending m w ≡ false → ChainRelyOf m g m g' → g'.position ≡ g.position → g'.helped ≡ g.helped → g'.element ≡ g.element → g'.order ≡ put g.order w q → g'.saw ≡ put g.saw w None → Rely n w w m g m g'
  rely-changed n w g' q s chain position helped element order saw =
      record {
        chain = chain;
        entries = entry-rely-same n w w m g m g' refl (λ k a b. refl) (λ k j a. ap (λ f. f k j) helped) (λ k j a. ap (λ f. f k j) helped) (λ x a b. ap (λ f. f x) position) (λ j a b l y e. l y (sym (ap (λ f. f y) position) ∙ e ∙ ap (λ f. f m.tail + 1) position)) (λ w x a b. b);
        orders = order-rely-pending w w m g m g' (λ j a b. b) (λ x a. ap (λ f. f x) element) (λ k a b. ap (λ f. f k) order ∙ put_other _ w _ k a)
            (λ k a. let z : g'.order k ≡ g.order k = ap (λ f. f k) order ∙ put_other _ w _ k (λ e. let y = ap (is_pending m) e in grind arith) in (ap asked_in z, ap placing_in z)) (λ j a. ap (λ f. f j) saw ∙ put_other _ w _ j a);
      }

  pub guaranteed-placed : (n w : ℕ) (a : Asked T) (steps : ℕ) → is_pending m w ≡ false → Rely n w w m g m (placed g w a steps)
  guaranteed-placed n w a steps s = rely-changed n w (placed g w a steps) _ s (chain-rely-same _ _ _ _ _ _ _) refl refl refl refl refl

  pub guaranteed-ended : (n w : ℕ) → is_pending m w ≡ false → Rely n w w m g m (ended g w)
  guaranteed-ended n w s = rely-changed n w (ended g w) None s (chain-rely-same _ _ _ _ _ _ _) refl refl refl refl refl

  pub guaranteed-supplied : (n u v w j : ℕ) (y : T) → g.used j ≡ false → Rely n u v m g (with_poster m j w) (supplied g j y)
  guaranteed-supplied n u v w j y f =
      record {
        chain = chain-rely-supplied _ _ _ _ _ _ _ j w f;
        entries = entry-rely-same n u v m g _ _ refl (λ k a b. refl) (λ k j a. refl) (λ k j a. refl) (λ x a b. refl) (λ k a b l y e q. grind (arith, put-tells, i.chain.known y, l y e)) (λ w x a b. b);
        orders = order-rely-pending u v m g _ _ (λ w a b. b) (λ x a. put_other _ j _ x (λ q. grind arith)) (λ k a b. refl) (λ k a. (refl, refl)) (λ w a. refl);
      }
