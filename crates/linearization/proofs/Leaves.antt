-- What closing leaves is what the abstract line's queue holds.
use Rattle.std.proofs.Common.{◌≡◌, ℕ, zero, suc, ◌+◌, ◌-◌, ◌<◌, ◌≤◌, true, ◌⊎◌, List, [], ◌∷◌, length, Some, None, Option, sym, refl, ap, ◌∙◌, subst, inl, inr, arith}
use Rattle.std.proofs.lemmas.Bool.{cases_eq, or_left, or_right, eq-eqb}
use Rattle.pickers.specs.Frames.{names}
use Rattle.pickers.specs.Rows.{all_named-from, all_named-length}
use Rattle.machine.specs.Calls.{chain_from, untaken, elements_of}
use Rattle.machine.specs.Memory.{Memory}
use Rattle.linearization.proofs.Ghosts.{Ghost, Holds, front_of}
use Rattle.linearization.proofs.GhostLaws.{holds-first, holds-empty}
use Rattle.linearization.proofs.MemoryInvariant.{ChainOf, OrdersOf}

-- the positions of the nodes below k, each less one
abbrev positions : (ℕ → ℕ) → ℕ → List ℕ
positions position zero = []
positions position (suc k) = (position k - 1) ∷ positions position k

positions-length : (position : ℕ → ℕ) (k : ℕ) → length (positions position k) ≡ k
positions-length position zero = refl
positions-length position (suc k) = ap suc (positions-length position k)

positions-names : (position : ℕ → ℕ) (k x : ℕ) → x < k → names (positions position k) (position x - 1) ≡ true
positions-names position zero x l = let z : ⊥ = omega arith in absurd z
positions-names position (suc k) x l = go (cases_eq x k) (λ h. positions-names position k x h)
  where
    go : (x ≡ k) ⊎ (x ≡ k → ⊥) → (x < k → names (positions position k) (position x - 1) ≡ true) → names (positions position (suc k)) (position x - 1) ≡ true
    go (inl e) r = or_left _ _ (eq-eqb _ _ (ap (λ y. position y - 1) (sym e)))
    go (inr n) r = or_right _ _ (r (omega arith))

module _ {T : Type 0} (m : Memory) (g : Ghost T) (c : ChainOf m g) where
  -- a chain of nodes up to a number is no longer than that
  pub chain-short : (most : ℕ) → ((x : ℕ) → 0 < g.position x → x ≤ most) → g.last ≤ most + 1
  chain-short most below =
      let all = all_named-from g.last (positions g.position (most + 1)) (λ b l. named b l) in
      let h = all_named-length g.last (positions g.position (most + 1)) all in
      let k = positions-length g.position (most + 1) in
      omega arith
    where
      named : (b : ℕ) → b < g.last → names (positions g.position (most + 1)) b ≡ true
      named b l =
          let p = c.filled (b + 1) (omega arith) (omega arith) in
          let h = positions-names g.position (most + 1) (g.node_at (b + 1)) (let q = below (g.node_at (b + 1)) (omega arith) in omega arith) in
          let e : g.position (g.node_at (b + 1)) - 1 ≡ b = omega arith in
          rw e at h

  -- the elements of the nodes after x, at most k of them
  walk : (k x : ℕ) (xs : List T) → 0 < g.position x → g.last ≤ g.position x + k → Holds g.node_at g.element (g.position x + 1) (g.last + 1) xs → elements_of g.element (chain_from m.successor k (m.successor x)) ≡ xs
  walk zero x xs l h q = sym (holds-empty _ _ (omega arith) q)
  walk (suc k) x xs l h q = go (λ y ys a b e. walk k y ys a b e) (m.successor x) refl
    where
      go : ((y : ℕ) (ys : List T) → 0 < g.position y → g.last ≤ g.position y + k → Holds g.node_at g.element (g.position y + 1) (g.last + 1) ys → elements_of g.element (chain_from m.successor k (m.successor y)) ≡ ys) → (o : Option ℕ) → m.successor x ≡ o → elements_of g.element (chain_from m.successor (suc k) o) ≡ xs
      go r None e = let a = c.end x l e in sym (holds-empty _ _ (omega arith) q)
      go r (Some y) e =
          let a = c.next x y e in
          let f = holds-first _ _ (let b = c.short y in omega (arith, a.1)) q in
          let at : g.node_at (g.position x + 1) ≡ y = ap g.node_at (sym a.1) ∙ c.inverse y (omega (arith, a.1)) in
          let el : g.element y ≡ Some f.0 = ap g.element (sym at) ∙ f.3 in
          let two : g.position x + 1 + 1 ≡ g.position y + 1 = omega (arith, a.1) in
          let rest = r y f.1 (omega (arith, a.1)) (omega (arith, a.1)) (subst (λ p. Holds g.node_at g.element p (g.last + 1) f.1) two f.4) in
          rw el (ap (λ ys. f.0 ∷ ys) rest ∙ sym f.2)

  pub leaves-queue : OrdersOf m g → (most : ℕ) → ((x : ℕ) → 0 < g.position x → x ≤ most) → elements_of g.element (untaken (m.taker m.head) (chain_from m.successor most (m.successor m.head))) ≡ g.queue
  leaves-queue o most below = go (m.taker m.head) refl o.held
    where
      taken : (k j : ℕ) → m.taker m.head ≡ Some j → g.last ≤ g.position m.head + k → (o : Option ℕ) → m.successor m.head ≡ o → Holds g.node_at g.element (g.position m.head + 2) (g.last + 1) g.queue → elements_of g.element (untaken (Some j) (chain_from m.successor k o)) ≡ g.queue
      taken zero j t l o e q = let a = c.taker_low m.head j t in let z : ⊥ = omega (arith, c.short m.tail) in absurd z
      taken (suc k) j t l None e q = let a = c.taker_low m.head j t in let b = c.end m.head c.head_in e in let z : ⊥ = omega (arith, c.short m.tail) in absurd z
      taken (suc k) j t l (Some y) e q =
          let a = c.next m.head y e in
          let two : g.position m.head + 2 ≡ g.position y + 1 = omega (arith, a.1) in
          walk k y g.queue (omega (arith, a.1)) (omega (arith, a.1)) (subst (λ p. Holds g.node_at g.element p (g.last + 1) g.queue) two q)

      go : (t : Option ℕ) → m.taker m.head ≡ t → Holds g.node_at g.element (front_of (m.taker m.head) (g.position m.head)) (g.last + 1) g.queue → elements_of g.element (untaken t (chain_from m.successor most (m.successor m.head))) ≡ g.queue
      go None t q = walk most m.head g.queue c.head_in (let h = chain-short most below in let l = c.head_in in omega arith) (rw t at q)
      go (Some j) t q = taken most j t (let h = chain-short most below in let l = c.head_in in omega arith) (m.successor m.head) refl (rw t at q)
