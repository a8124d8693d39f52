-- What is known of a worker stays known over another's step, by what it may rely on: one lemma for each small fact.
use Rattle.std.proofs.Common.{◌≡◌, ℕ, ◌<◌, ◌≤◌, true, false, ◌≢◌, ◌⊎◌, Some, None, Option, sym, refl, ap, ◌∙◌, subst, inl, inr, arith}
use Rattle.std.proofs.lemmas.Bool.{cases_Bool}
use Rattle.machine.specs.declared.entry.Entry.{Entry}
use Rattle.machine.specs.declared.entry.OrderKind.{OrderKind}
use Rattle.machine.specs.declared.stage.Return.{Return}
use Rattle.machine.specs.Accesses.{named}
use Rattle.machine.specs.Memory.{Memory}
use Rattle.linearization.proofs.Ghosts.{Ghost, is_pending, kind_of, node_of, phase_of, count_of}
use Rattle.linearization.proofs.MemoryInvariant.{ChainOf, EntriesOf}
use Rattle.linearization.proofs.Relies.{ChainRelyOf, EntryRely}
use Rattle.linearization.proofs.StageFacts.{Scanning, PhaseChosen, Posted, Helping, HelpingIn, WasTail, WasHead, IsSuccessor, ReadByE3, ReadByD4, TakerSettled, NamesEarlier, ReadByT9, HeadWaits}
use Rattle.linearization.proofs.Transitions.{Passed, Unlinked}

-- an entry with the count c, or done, stays so where it is kept or done
late-race : (e e' : Entry) (c : ℕ) → (e.count ≡ c) ⊎ (e.descriptor.pending ≡ false) → (e' ≡ e) ⊎ (e'.descriptor.pending ≡ false) → (e'.count ≡ c) ⊎ (e'.descriptor.pending ≡ false)
late-race e e' c a b = grind arith

late-shut : (e e' : Entry) → e.descriptor.pending ≡ false → (e' ≡ e) ⊎ (e'.descriptor.pending ≡ false) → e'.descriptor.pending ≡ false
late-shut e e' a b = grind arith

module _ {T : Type 0} (n u v : ℕ) (m : Memory) (g : Ghost T) (m' : Memory) (g' : Ghost T) (c : ChainOf m g) (d : EntriesOf m g) (p : ChainRelyOf m g m' g') (y : EntryRely n u v m g m' g') where
  pub was-tail-stable : {l : ℕ} → WasTail m g l → WasTail m' g' l
  was-tail-stable {l} f = let a = p.stays l f.held in let b = p.tail_on in record { held = omega (arith, f.held); low = omega (arith, f.low) }

  pub was-head-stable : {h : ℕ} → WasHead m g h → WasHead m' g' h
  was-head-stable {h} f = let a = p.stays h f.held in let b = p.head_on in record { held = omega (arith, f.held); low = omega (arith, f.low) }

  pub successor-stable : {l : ℕ} {x : Option ℕ} → IsSuccessor m l x → IsSuccessor m' l x
  successor-stable {l} {x} f = (p.successors l (named x) f.0, f.1)

  -- what is none was none
  pub no-successor-before : (l : ℕ) → m'.successor l ≡ None → m.successor l ≡ None
  no-successor-before l e = go (m.successor l) refl
    where
      go : (o : Option ℕ) → m.successor l ≡ o → m.successor l ≡ None
      go None h = h
      go (Some z) h = let k = p.successors l z h in grind arith

  pub no-taker-before : (h : ℕ) → m'.taker h ≡ None → m.taker h ≡ None
  no-taker-before h e = go (m.taker h) refl
    where
      go : (o : Option ℕ) → m.taker h ≡ o → m.taker h ≡ None
      go None i = i
      go (Some z) i = let k = p.takers h z i in grind arith

  pub passed-stable : (w : ℕ) → is_pending m w ≡ false → Passed m g w → Passed m' g' w
  passed-stable w q f x e =
      let a = y.claims w x q e in
      let b = f x a in
      let i = p.stays x (c.taker_low x w a).0 in
      let j = p.head_on in
      omega arith

  pub poster-stable : (l x : ℕ) → m.successor l ≡ Some x → m'.poster x ≡ m.poster x
  poster-stable l x e = let k = c.next l x e in p.posters x (c.known x (omega arith))

  pub read-E3-stable : {l x k : ℕ} → WasTail m g l → m.successor l ≡ Some x → ReadByE3 m g l x k → ReadByE3 m' g' l x k
  read-E3-stable {l} {x} {k} f s h =
      let i = c.next l x s in
      let q = poster-stable l x s in
      record {
        since = grind (arith, y.counts (m.poster x));
        race = λ e. let a = p.stays l f.held in let b = p.tail_on in subst (λ z. (count_of m' z ≡ k) ⊎ (is_pending m' z ≡ false)) (sym q) (late-race _ _ _ (h.race (omega (arith, f.low))) (y.late_post x (omega (arith, f.low))));
      }

  -- if head is h now, it was
  pub head-was : (h : ℕ) → WasHead m g h → g'.position m'.head ≡ g'.position h → m.head ≡ h
  head-was h f e =
      let a = p.stays h f.held in
      let b = p.head_on in
      let q : g.position m.head ≡ g.position h = omega (arith, f.low) in
      sym (c.inverse m.head c.head_in) ∙ ap g.node_at q ∙ c.inverse h f.held

  pub read-D4-stable : {h k b : ℕ} → WasHead m g h → ReadByD4 m g h k b → ReadByD4 m' g' h k b
  read-D4-stable {h} {k} {b} f i =
      record {
        of = p.takers h k i.of;
        since = grind (arith, y.counts k);
        race = λ e.
            let z = head-was h f e in
            late-race _ _ _ (i.race (ap g.position z)) (y.late_fetch k (ap m.taker z ∙ i.of));
      }

  pub taker-settled-stable : {h : ℕ} → WasHead m g h → TakerSettled m g h → TakerSettled m' g' h
  taker-settled-stable {h} i f =
      record {
        k = f.k;
        of = p.takers h f.k f.of;
        shut = λ e.
            let z = head-was h i e in
            late-shut _ _ (f.shut (ap g.position z)) (y.late_fetch f.k (ap m.taker z ∙ f.of));
      }

  -- what is known of an entry if its count is still b
  pub unwritten-stable : (k b : ℕ) (P : Entry → Type 0) → b ≤ count_of m k → (count_of m k ≡ b → P (m.entry k)) → count_of m' k ≡ b → P (m'.entry k)
  unwritten-stable k b P l f e = go (y.counts k)
    where
      go : (m'.entry k ≡ m.entry k) ⊎ (count_of m k < count_of m' k) → P (m'.entry k)
      go (inl i) = subst P (sym i) (f (sym (ap (λ (z : Entry). z.count) i) ∙ e))
      go (inr i) = let z : ⊥ = omega arith in absurd z

  -- and so of the entry of a node's poster
  pub unwritten-poster : (l x b : ℕ) (P : Entry → Type 0) → m.successor l ≡ Some x → b ≤ count_of m (m.poster x) → (count_of m (m.poster x) ≡ b → P (m.entry (m.poster x))) → count_of m' (m'.poster x) ≡ b → P (m'.entry (m'.poster x))
  unwritten-poster l x b P t i f e =
      let a = poster-stable l x t in
      subst (λ (k : ℕ). P (m'.entry k)) (sym a) (unwritten-stable (m.poster x) b P i f (sym (ap (count_of m') a) ∙ e))

  pub head-waits-stable : {k b h : ℕ} → b ≤ count_of m k → m.taker h ≡ Some k → HeadWaits m k b h → HeadWaits m' k b h
  head-waits-stable {k} {b} {h} l t f e q = go (y.counts k)
    where
      go : (m'.entry k ≡ m.entry k) ⊎ (count_of m k < count_of m' k) → m'.head ≡ h
      go (inl i) = let a : is_pending m k ≡ true = sym (ap (λ (z : Entry). z.descriptor.pending) i) ∙ q in let s = f (sym (ap (λ (z : Entry). z.count) i) ∙ e) a in y.head_waits k (ap m.taker s ∙ t) a ∙ s
      go (inr i) = let z : ⊥ = omega arith in absurd z

  pub names-earlier-stable : {k h b : ℕ} → WasHead m g h → NamesEarlier m g k h b → NamesEarlier m' g' k h b
  names-earlier-stable {k} {h} {b} i f =
      record {
        since = grind (arith, y.counts k);
        before = λ x e q r s. unwritten-stable k b (λ z. z.descriptor.pending ≡ true → z.descriptor.kind ≡ OrderKind.Fetch → z.descriptor.node ≡ Some x → g'.position x < g'.position h) f.since
            (λ a q r s. let j = d.fetches k x q r s in let l = f.before x a q r s in let w = p.stays x j.0 in let o = p.stays h i.held in omega arith) e q r s;
      }

  pub read-T9-stable : {k h b : ℕ} {o : Option ℕ} → WasHead m g h → ReadByT9 m g k h b o → ReadByT9 m' g' k h b o
  read-T9-stable {k} {h} {b} {o} i f =
      let a = p.stays h i.held in
      let j = p.tail_on in
      record { near = omega (arith, f.near); since = grind (arith, y.counts k); then = λ e. unwritten-stable k b (λ z. z.descriptor.node ≡ o) f.since f.then e }

  module _ (w : ℕ) (crew : w < n) where
    -- the helped worker has begun no new order, if its phase is not above
    pub same-order : (q k : ℕ) → q ≤ g.helped k w → phase_of m' k ≤ q → (phase_of m k ≤ q) × (is_pending m' k ≡ true → is_pending m k ≡ true) × (kind_of m' k ≡ kind_of m k)
    same-order q k h i = go (y.phases k)
      where
        go : ((phase_of m' k ≡ phase_of m k) × (kind_of m' k ≡ kind_of m k) × (is_pending m' k ≡ true → is_pending m k ≡ true)) ⊎ ((is_pending m k ≡ false) × (k ≡ u) × ((j : ℕ) → j < n → g.helped k j < phase_of m' k)) → (phase_of m k ≤ q) × (is_pending m' k ≡ true → is_pending m k ≡ true) × (kind_of m' k ≡ kind_of m k)
        go (inl a) = (omega arith, a.2, a.1)
        go (inr a) = let b = a.2 w crew in let z : ⊥ = omega arith in absurd z

    pub kin-stable : {q k : ℕ} {e : OrderKind} → Helping m g w q k e → is_pending m' k ≡ true → phase_of m' k ≤ q → kind_of m' k ≡ e
    kin-stable {q} {k} f a b = let s = same-order q k f.asked b in s.2 ∙ f.kin (s.1 a) s.0

    pub helping-stable : w ≢ v → {q k : ℕ} {e : OrderKind} → Helping m g w q k e → Helping m' g' w q k e
    helping-stable o {q} {k} f = record { asked = let a = y.helping k w o in omega (arith, f.asked); kin = kin-stable f }

    pub helping-in-stable : w ≢ v → (q k : ℕ) (r : Return) → HelpingIn m g w q k r → HelpingIn m' g' w q k r
    helping-in-stable o q k Return.HelpEnq f = helping-stable o f
    helping-in-stable o q k Return.HelpDeq f = helping-stable o f
    helping-in-stable o q k Return.NextWorker f = f
    helping-in-stable o q k Return.End f = f

    -- the entry of a helped post, while l is the last node; of a helped fetch, while its node h has no taker
    pub same_post : (q k l : ℕ) → Helping m g w q k OrderKind.Post → WasTail m g l → m'.successor l ≡ None → phase_of m k ≤ q → is_pending m k ≡ true → m'.entry k ≡ m.entry k
    same_post q k l h i e a b = y.frozen_post l k i.held i.low e b (h.kin b a)

    pub same-fetch : (q k h : ℕ) → Helping m g w q k OrderKind.Fetch → WasHead m g h → m'.taker h ≡ None → phase_of m k ≤ q → is_pending m k ≡ true → node_of m k ≡ Some h → m'.entry k ≡ m.entry k
    same-fetch q k h i j e a b s = y.frozen_fetch h k j.held j.low e b (i.kin b a) s

  module _ (w : ℕ) (o : w ≢ u) where
    pub phase-stable : phase_of m' w ≡ phase_of m w
    phase-stable = grind (arith, y.phases w)

    pub kind-stable : kind_of m' w ≡ kind_of m w
    kind-stable = grind (arith, y.phases w)

    pub unlinked-stable : {x : ℕ} → is_pending m w ≡ false → Unlinked m g w x → Unlinked m' g' w x
    unlinked-stable {x} q f = record { mine = p.posters x f.old ∙ f.mine; old = p.uses x f.old; loose = y.unlinked x f.old (ap (is_pending m) f.mine ∙ q) ∙ f.loose }

    pub scanning-stable : {i q : ℕ} → is_pending m w ≡ false → Scanning m g w i q → Scanning m' g' w i q
    scanning-stable {i} {q} e f =
        record { over = λ j h. let a = f.over j h in let b = y.unhelped w j e in omega arith; self = λ h. let a = f.self h in let b = phase-stable in omega arith }

    pub chosen-stable : {q : ℕ} → is_pending m w ≡ false → PhaseChosen m g n w q → PhaseChosen m' g' n w q
    chosen-stable {q} e f =
        record { over = λ j h. let a = f.over j h in let b = y.unhelped w j e in omega arith; self = let a = f.self in let b = phase-stable in omega arith }

    pub posted-stable : {x : ℕ} → kind_of m w ≡ OrderKind.Post → Posted m g w x → Posted m' g' w x
    posted-stable {x} k f =
        let a = y.posting w x o k f.names in
        record {
          names = a.0;
          mine = p.posters x f.old ∙ f.mine;
          old = p.uses x f.old;
          done = λ e. grind (arith, cases_Bool (is_pending m w), p.stays x, f.done, a.1);
        }
