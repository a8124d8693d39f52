-- What each transition leaves to the others, of the chain and of the entries: it meets what they rely on.
use Rattle.std.proofs.Common.{◌≡◌, ℕ, ◌<◌, ◌≤◌, Bool, true, false, ◌≢◌, Some, None, Option, sym, refl, ap, ◌∙◌, subst, inl, arith}
use Rattle.promise.specs.Maps.{put}
use Rattle.promise.proofs.MapLaws.{put_other, put-tells}
use Rattle.machine.specs.declared.entry.Descriptor.{Descriptor}
use Rattle.machine.specs.declared.entry.OrderKind.{OrderKind}
use Rattle.machine.specs.Accesses.{described}
use Rattle.machine.specs.Memory.{Memory, with_entry}
use Rattle.linearization.proofs.Ghosts.{Ghost, is_pending, kind_of, node_of, phase_of}
use Rattle.linearization.proofs.MemoryInvariant.{ChainOf, EntriesOf}
use Rattle.linearization.proofs.Relies.{ChainRely, EntryRely}
use Rattle.linearization.proofs.Transitions.{Linked, Passed}

-- the chain: nothing changes, a node is linked, head's node is taken, head or tail moves, a node is used
module _ (position : ℕ → ℕ) (used : ℕ → Bool) (tail head : ℕ) (successor taker : ℕ → Option ℕ) (poster : ℕ → ℕ) where
  pub chain-rely-same : ChainRely position used tail head successor taker poster position used tail head successor taker poster
  chain-rely-same = record { stays = λ x i. refl; tail_on = omega arith; head_on = omega arith; successors = λ x y i. i; takers = λ x k i. i; posters = λ x i. refl; uses = λ x i. i }

  pub chain-rely-linked : (l x last : ℕ) → 0 < position tail → 0 < position head → successor l ≡ None → position x ≡ 0 → ChainRely position used tail head successor taker poster (put position x last) used tail head (put successor l (Some x)) taker poster
  chain-rely-linked l x last t h n z = record { stays = λ y i. grind (arith, put-tells); tail_on = grind (arith, put-tells); head_on = grind (arith, put-tells); successors = λ y j i. grind (arith, put-tells); takers = λ y k i. i; posters = λ y i. refl; uses = λ y i. i }

  pub chain-rely-taken : (k : ℕ) → taker head ≡ None → ChainRely position used tail head successor taker poster position used tail head successor (put taker head (Some k)) poster
  chain-rely-taken k n = record { stays = λ x i. refl; tail_on = omega arith; head_on = omega arith; successors = λ x y i. i; takers = λ x j i. grind (arith, put-tells); posters = λ x i. refl; uses = λ x i. i }

  pub chain-rely-moved : (t h : ℕ) → position tail ≤ position t → position head ≤ position h → ChainRely position used tail head successor taker poster position used t h successor taker poster
  chain-rely-moved t h a b = record { stays = λ x i. refl; tail_on = a; head_on = b; successors = λ x y i. i; takers = λ x k i. i; posters = λ x i. refl; uses = λ x i. i }

  pub chain-rely-supplied : (j w : ℕ) → used j ≡ false → ChainRely position used tail head successor taker poster position (put used j true) tail head successor taker (put poster j w)
  chain-rely-supplied j w f = record { stays = λ x i. refl; tail_on = omega arith; head_on = omega arith; successors = λ x y i. i; takers = λ x k i. i; posters = λ x i. grind (arith, put-tells); uses = λ x i. grind (arith, put-tells) }

module _ {T : Type 0} (n u v : ℕ) (m : Memory) (g : Ghost T) where
  -- no entry is written
  pub entry-rely-same : (m' : Memory) (g' : Ghost T) → m'.entry ≡ m.entry
      → ((k : ℕ) → m.taker m.head ≡ Some k → is_pending m k ≡ true → m'.head ≡ m.head)
      → ((k j : ℕ) → j ≢ v → g'.helped k j ≡ g.helped k j) → ((k j : ℕ) → is_pending m k ≡ false → g'.helped k j ≡ g.helped k j)
      → ((x : ℕ) → g.used x ≡ true → is_pending m (m.poster x) ≡ false → g'.position x ≡ g.position x)
      → ((w : ℕ) → w ≢ u → is_pending m w ≡ false → Linked m g w → Linked m' g' w)
      → ((w x : ℕ) → is_pending m w ≡ false → m'.taker x ≡ Some w → m.taker x ≡ Some w)
      → EntryRely n u v m g m' g'
  entry-rely-same m' g' e waits helping unhelped unlinked linked claims =
      record {
        counts = λ k. inl (ap (λ f. f k) e);
        phases = λ k. inl (ap (λ f. (f k).descriptor.phase) e, ap (λ f. (f k).descriptor.kind) e, λ i. sym (ap (λ f. (f k).descriptor.pending) e) ∙ i);
        late_post = λ y i. inl (ap (λ f. f (m.poster y)) e);
        late_fetch = λ k i. inl (ap (λ f. f k) e);
        head_waits = waits;
        frozen_post = λ l k a b d i f. ap (λ f. f k) e;
        frozen_fetch = λ h k a b d i f j. ap (λ f. f k) e;
        helping = helping;
        unhelped = unhelped;
        unlinked = unlinked;
        linked = linked;
        claims = claims;
        done = λ w a b. (ap (λ f. (f w).descriptor.pending) e ∙ b, ap (λ f. (f w).descriptor.node) e);
        posting = λ w x a b i. (ap (λ f. (f w).descriptor.node) e ∙ i, λ j k. let z = ap (λ f. (f w).descriptor.pending) e in grind arith);
        fetching = λ w x a b i j k. let z = ap (λ f. (f w).descriptor.pending) e in grind arith;
      }

  -- u announces an order, with a phase above that of all its helpers
  pub entry-rely-announced : (q : ℕ) (d : OrderKind) (own : Option ℕ) → EntriesOf m g → is_pending m u ≡ false → Linked m g u → Passed m g u → ((j : ℕ) → j < n → g.helped u j < q) → EntryRely n u v m g (with_entry m u (described q true d own)) g
  entry-rely-announced q d own c s li pa over =
      record {
        counts = λ k. grind (arith, put-tells);
        phases = λ j. grind (arith, put-tells);
        late_post = λ y i. grind (arith, put-tells, li y i);
        late_fetch = λ j i. grind (arith, put-tells, pa m.head);
        head_waits = λ k i j. refl;
        frozen_post = λ l k a b d e f. grind (arith, put-tells);
        frozen_fetch = λ h k a b d e f i. grind (arith, put-tells);
        helping = λ k j i. refl;
        unhelped = λ k j i. refl;
        unlinked = λ x i j. refl;
        linked = λ w a b i. i;
        claims = λ w x a b. b;
        done = λ w a b. grind (arith, put-tells);
        posting = λ w x a b i. grind (arith, put-tells);
        fetching = λ w x a b i e f. grind (arith, put-tells);
      }

-- a writing d of k's entry that leaves k its order and disturbs nobody: kind and phase stay; a post is linked and done
-- after; a fetch that is pending does not name a node that can still be taken; one that is done says so truly
pub record Rewrites {T : Type 0} (m : Memory) (g : Ghost T) (k : ℕ) (d : Descriptor) : Type 0 where
  pub phase : d.phase ≡ phase_of m k
  pub kind : d.kind ≡ kind_of m k
  pub pends : d.pending ≡ true → is_pending m k ≡ true
  pub post_done : kind_of m k ≡ OrderKind.Post → (d.pending ≡ false) × (d.node ≡ node_of m k)
  pub post_linked : (x : ℕ) → kind_of m k ≡ OrderKind.Post → node_of m k ≡ Some x → 0 < g.position x
  pub taker_done : m.taker m.head ≡ Some k → d.pending ≡ false
  pub fetch_taken : (x : ℕ) → kind_of m k ≡ OrderKind.Fetch → is_pending m k ≡ true → node_of m k ≡ Some x → m.taker x ≢ None
  pub done : is_pending m k ≡ false → (d.pending ≡ false) × (d.node ≡ node_of m k)
  pub claimed : (x : ℕ) → kind_of m k ≡ OrderKind.Fetch → is_pending m k ≡ true → d.pending ≡ false → d.node ≡ Some x → m.taker x ≡ Some k

module _ {T : Type 0} (n u v : ℕ) (m : Memory) (g : Ghost T) (g' : Ghost T) (c : ChainOf m g) (e : EntriesOf m g) (k : ℕ) (d : Descriptor) (r : Rewrites m g k d) where
  -- a post whose node is linked has tail before the last node
  tail-before : is_pending m k ≡ true → kind_of m k ≡ OrderKind.Post → (l : ℕ) → 0 < g.position l → g.position l ≤ g.position m.tail → m.successor l ≡ None → ⊥
  tail-before p ki l a b s = go (node_of m k) refl
    where
      go : (o : Option ℕ) → node_of m k ≡ o → ⊥
      go None h = e.post_node k p ki h
      go (Some x) h = let i = (e.posts k x p ki h).2 (r.post_linked x ki h) in let j = c.end l a s in omega (arith, c.short x)

  pub entry-rely-rewritten : ((x : ℕ) → g'.position x ≡ g.position x) → ((a b : ℕ) → g'.helped a b ≡ g.helped a b) → EntryRely n u v m g (with_entry m k d) g'
  entry-rely-rewritten same helped =
      record {
        counts = λ j. grind (arith, put-tells);
        phases = λ j. grind (arith, put-tells, r.phase, r.kind, r.pends);
        late_post = λ y i. grind (arith, put-tells, e.behind y i, r.post_done);
        late_fetch = λ j i. grind (arith, put-tells, r.taker_done);
        head_waits = λ j i a. refl;
        frozen_post = λ l j a b s p ki. put_other _ k _ j (λ q. tail-before (subst (λ z. is_pending m z ≡ true) q p) (subst (λ z. kind_of m z ≡ OrderKind.Post) q ki) l a b s);
        frozen_fetch = λ h j a b t p ki nd. grind (arith, put-tells, r.fetch_taken h);
        helping = λ a b i. helped a b;
        unhelped = λ a b i. helped a b;
        unlinked = λ x i j. same x;
        linked = λ w a b i y f. i y (grind (arith, same y, same m.tail));
        claims = λ w x a b. b;
        done = λ w a b. grind (arith, put-tells, r.done);
        posting = λ w x a b i. grind (arith, put-tells, r.post_done, r.post_linked x);
        fetching = λ w x a b i f h. grind (arith, put-tells, r.claimed x);
      }
