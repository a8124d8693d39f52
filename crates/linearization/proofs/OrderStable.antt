-- What is known of a worker's own order stays known over another's step.
use Rattle.std.proofs.Common.{◌≡◌, ℕ, ◌<◌, Bool, true, false, ◌≢◌, Some, None, Option, sym, refl, ap, ◌∙◌, arith}
use Rattle.std.proofs.lemmas.Bool.{cases_Bool}
use Rattle.vocabulary.specs.declared.kind.Kind.{Kind}
use Rattle.promise.specs.AbstractLine.{Open}
use Rattle.machine.specs.declared.entry.OrderKind.{OrderKind}
use Rattle.machine.specs.declared.stage.Return.{Return}
use Rattle.machine.specs.Accesses.{named}
use Rattle.machine.specs.Memory.{Memory}
use Rattle.machine.specs.States.{element_of}
use Rattle.linearization.proofs.Ghosts.{Ghost, is_pending, service_in, service, asked_in, as_post}
use Rattle.linearization.proofs.MemoryInvariant.{ChainOf, EntriesOf}
use Rattle.linearization.proofs.Relies.{ChainRelyOf, EntryRely, OrderRely, FetchServed}
use Rattle.linearization.proofs.Stable.{was-tail-stable, was-head-stable, passed-stable, helping-stable, helping-in-stable, same-order, phase-stable, kind-stable, unlinked-stable, posted-stable}
use Rattle.linearization.proofs.StageFacts.{Quiescent, Announced, Helping, FinishingEnq, FinishingDeq, ReadByD2, HelpingEnq, HelpingDeq, SawEmpty}
use Rattle.linearization.proofs.Transitions.{Unannounced}

-- an order that asks something is there
asking-busy : {T : Type 0} (q q' : Option (Open T)) → asked_in q' ≡ asked_in q → q ≢ None → q' ≢ None
asking-busy None q' e b = absurd (b refl)
asking-busy (Some o) None e b = let z : ◌≡◌ {A = ℕ} 0 1 = cc in let y : ⊥ = omega arith in absurd y
asking-busy (Some o) (Some o') e b = λ z. let x : ◌≡◌ {A = ℕ} 0 1 = cc in omega arith

module _ {T : Type 0} (n u v : ℕ) (m : Memory) (g : Ghost T) (m' : Memory) (g' : Ghost T) (c : ChainOf m g) (d : EntriesOf m g) (p : ChainRelyOf m g m' g') (y : EntryRely n u v m g m' g') (z : OrderRely u v m g m' g') where
  module _ (w : ℕ) (o : w ≢ u) where
    pub quiescent-stable : Quiescent m g w → Quiescent m' g' w
    quiescent-stable f =
        record {
          silent = (y.done w o f.silent).0;
          linked = y.linked w o f.silent f.linked;
          passed = passed-stable n u v m g m' g' c d p y w f.silent f.passed;
          free = z.settled w o f.silent ∙ f.free;
        }

    pub unannounced-stable : {e : OrderKind} {own : Option ℕ} → Unannounced m g w e own → Unannounced m' g' w e own
    unannounced-stable {e} {own} f =
        let s = z.settled w o f.silent in
        record {
          silent = (y.done w o f.silent).0;
          linked = y.linked w o f.silent f.linked;
          passed = passed-stable n u v m g m' g' c d p y w f.silent f.passed;
          post = λ i. unlinked-stable n u v m g m' g' c d p y w o f.silent (f.post i);
          busy = λ i. f.busy (sym s ∙ i);
          asks = record {
            post = λ i. let a = f.asks.post i in (a.0, ap asked_in s ∙ a.1 ∙ ap as_post (sym (z.elements (named own) (f.post i).old)));
            fetch = λ i. let a = f.asks.fetch i in (a.0, ap asked_in s ∙ a.1);
          };
          waits = ap service_in s ∙ f.waits;
        }

    -- a fetch that is served stays so
    served-stable : is_pending m w ≡ false → FetchServed m g w → FetchServed m' g' w
    served-stable q f =
        let s = z.settled w o q in
        let nd = (y.done w o q).1 in
        record {
          nothing = λ i. ap service_in s ∙ f.nothing (sym nd ∙ i);
          something = λ x i. let a = f.something x (sym nd ∙ i) in later x (m.successor x) refl a;
        }
      where
        later : (x : ℕ) (q : Option ℕ) → m.successor x ≡ q → (service_in (g.order w) ≡ service Kind.Fetch (element_of g.element (m.successor x))) × (m.successor x ≢ None) → (service_in (g'.order w) ≡ service Kind.Fetch (element_of g'.element (m'.successor x))) × (m'.successor x ≢ None)
        later x None e a = absurd (a.1 e)
        later x (Some k) e a =
            let s = z.settled w o q in
            let i = p.successors x k e in
            let j = c.next x k e in
            let l = z.elements k (c.known k (omega arith)) in
            (ap service_in s ∙ a.0 ∙ ap (λ r. service Kind.Fetch r) (ap (element_of g.element) e ∙ sym l ∙ ap (element_of g'.element) (sym i)), λ r. grind arith)

    pub announced-stable : {e : OrderKind} {own : Option ℕ} {q i : ℕ} → Announced m g w e own q i → Announced m' g' w e own q i
    announced-stable {e} {own} {q} {i} f =
        record {
          phased = phase-stable n u v m g m' g' c d p y w o ∙ f.phased;
          kinded = kind-stable n u v m g m' g' c d p y w o ∙ f.kinded;
          past = λ h. (y.done w o (f.past h)).0;
          post = λ h. posted-stable n u v m g m' g' c d p y w o (f.kinded ∙ h) (f.post h);
          fetch = λ x h s k. grind (arith, cases_Bool (is_pending m w), y.done w o, p.takers x w, f.fetch x, y.fetching w x o, f.kinded);
          busy = still-busy (is_pending m w) refl;
          post_served = λ h s. posted-served h s (is_pending m w) refl;
          fetch_served = λ h s. fetched-served h s (is_pending m w) refl;
        }
      where
        still-busy : (b : Bool) → is_pending m w ≡ b → g'.order w ≢ None
        still-busy true h = asking-busy _ _ (z.asking w h).0 f.busy
        still-busy false h = λ r. f.busy (sym (z.settled w o h) ∙ r)

        posted-served : e ≡ OrderKind.Post → is_pending m' w ≡ false → (b : Bool) → is_pending m w ≡ b → service_in (g'.order w) ≡ service Kind.Post None
        posted-served h s true r = z.post_done w o (f.kinded ∙ h) r s
        posted-served h s false r = ap service_in (z.settled w o r) ∙ f.post_served h r

        fetched-served : e ≡ OrderKind.Fetch → is_pending m' w ≡ false → (b : Bool) → is_pending m w ≡ b → FetchServed m' g' w
        fetched-served h s true r = z.fetch_done w o (f.kinded ∙ h) r s
        fetched-served h s false r = served-stable r (f.fetch_served h r)

    pub finishing-enq-stable : w ≢ v → w < n → {e : OrderKind} {own : Option ℕ} {q i : ℕ} {r : Return} {l : ℕ} → FinishingEnq m g w e own q i r l → FinishingEnq m' g' w e own q i r l
    finishing-enq-stable o' crew {own = own} {q = q} {i = i} {r = r} {l = l} f =
        record {
          order = announced-stable f.order;
          help = helping-in-stable n u v m g m' g' c d p y w crew o' q i r f.help;
          was = was-tail-stable n u v m g m' g' c d p y f.was;
          aim = λ b. let a = f.aim b in let s = p.stays l f.was.held in let t = p.stays (named own) a.1 in (a.0, omega arith, omega arith);
        }

    pub finishing-deq-stable : w ≢ v → w < n → {e : OrderKind} {own : Option ℕ} {q i : ℕ} {r : Return} {h : ℕ} → FinishingDeq m g w e own q i r h → FinishingDeq m' g' w e own q i r h
    finishing-deq-stable o' crew {q = q} {i = k} {r = r} {h = h} f =
        record {
          order = announced-stable f.order;
          help = helping-in-stable n u v m g m' g' c d p y w crew o' q k r f.help;
          from = f.from;
          was = was-head-stable n u v m g m' g' c d p y f.was;
          aim = λ b.
              let a = f.aim b in
              (a.0, (y.done w o a.1).0, λ x e. let j = y.claims w x a.1 e in let l = a.2 x j in let s = p.stays x (c.taker_low x w j).0 in let t = p.stays h f.was.held in omega arith);
        }

    pub read-D2-stable : {e : OrderKind} {own : Option ℕ} {q i : ℕ} {r : Return} {h : ℕ} {b : Option ℕ} → FinishingDeq m g w e own q i r h → ReadByD2 m g w r h b → ReadByD2 m' g' w r h b
    read-D2-stable {h = h} a f =
        record {
          then = λ x e. p.successors h x (f.then x e);
          none = λ b e x i. let s = (a.aim b).1 in let k = y.claims w x s i in let l = f.none b e x k in let r = p.stays x (c.taker_low x w k).0 in let t = p.stays h a.was.held in omega arith;
        }

    pub helping-enq-stable : w ≢ v → w < n → {e : OrderKind} {own : Option ℕ} {q i l : ℕ} → HelpingEnq m g w e own q i l → HelpingEnq m' g' w e own q i l
    helping-enq-stable o' crew f = record { order = announced-stable f.order; help = helping-stable n u v m g m' g' c d p y w crew o' f.help; was = was-tail-stable n u v m g m' g' c d p y f.was }

    pub helping-deq-stable : w ≢ v → w < n → {e : OrderKind} {own : Option ℕ} {q i h : ℕ} → HelpingDeq m g w e own q i h → HelpingDeq m' g' w e own q i h
    helping-deq-stable o' crew f = record { order = announced-stable f.order; help = helping-stable n u v m g m' g' c d p y w crew o' f.help; was = was-head-stable n u v m g m' g' c d p y f.was }

  -- a mark stays, and so does the placing of the order that is helped
  pub saw-empty-stable : (w : ℕ) → w ≢ v → w < n → {e : OrderKind} {q k t : ℕ} → Helping m g w q k e → SawEmpty m g w q k t → SawEmpty m' g' w q k t
  saw-empty-stable w o crew {q = q} {k = k} h f =
      record {
        saw = z.marks w o ∙ f.saw;
        after = λ a b. let s = same-order n u v m g m' g' c d p y w crew q k h.asked b in let i = s.1 a in let j = f.after i s.0 in let l = (z.asking k i).1 in omega arith;
      }
