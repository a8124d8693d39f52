-- What a counted step may do to the line is lawful: the point that it tells fits, and the invariant is kept.
use Rattle.std.proofs.Common.{◌≡◌, ℕ, ◌-◌, ◌<◌, Bool, false, ◌≢◌, List, [], ◌∷◌, ◌++◌, Some, None, Option, sym, refl, ap, ◌∙◌, subst, arith}
use Rattle.vocabulary.specs.declared.kind.Kind.{Kind}
use Rattle.promise.specs.AbstractLine.{Given, Open, Line, Effect, giving, unmarking}
use Rattle.promise.specs.Books.{Book, point_to, after_point}
use Rattle.promise.specs.Events.{Asked, Point}
use Rattle.promise.specs.PlainList.{kind_from, element_from, fed, plain}
use Rattle.promise.specs.WellTold.{Below, EarlierStep, PointFits}
use Rattle.promise.proofs.LineGiven.{Lawful, known-given}
use Rattle.promise.proofs.LineMarked.{known-marked}
use Rattle.promise.proofs.LineState.{PointsOf, Paired, MarkKnown, Known, Fresh}
use Rattle.promise.proofs.MapLaws.{put_other, put-tells}
use Rattle.promise.proofs.PlainLaws.{plain-below, plain-free, plain_at, plain-insert}

module _ {T : Type 0} (strict : Bool) (b : Book T) (s : Line T) (k : Known strict b s) where
  -- a worker's mark may be dropped
  known-unmarked : (w : ℕ) → Known strict b (unmarking s w)
  known-unmarked w =
      record {
        steps = k.steps;
        idle = k.idle;
        busy = k.busy;
        mark = λ v e h. let x = k.mark v e (grind (arith, put-tells)) in record { low = x.low; high = x.high; free = x.free; empty = x.empty; own = x.own; since = x.since };
        point = k.point;
        owner = k.owner;
        single = k.single;
        placed = k.placed;
        answered = k.answered;
        queue = k.queue;
      }

  -- a point at the present step, which nothing else has: the order is fed to the queue
  module _ (w : ℕ) (f : Fresh b s w) (v : ℕ) (o : Open T) (kind : Kind) (element : Option T) (q : List T) (open_order : s.order v ≡ Some o)
      (is-kind : kind ≡ kind_from o.asked s.queue) (is-element : element ≡ element_from o.asked s.queue) (is-queue : q ≡ fed o.asked s.queue) where
    abbrev own : Paired b v o
    own = k.busy v o open_order

    before : plain b (b.steps - 1) ≡ s.queue
    before = sym (plain-free b.asked b.pointed b.steps f.low f.free) ∙ sym k.queue

    lawful-now : Lawful b s v o (record { number = s.steps; kind = kind; element = element }) own.index q
    lawful-now = subst (λ (n : ℕ). Lawful b s v o (record { number = n; kind = kind; element = element }) own.index q) k.steps (record {
      low = f.low;
      high = omega arith;
      above = let l = f.later own.index own.below in omega (arith, own.placing);
      free = f.free;
      kind = is-kind ∙ ap (kind_from o.asked) (sym before);
      element = is-element ∙ ap (element_from o.asked) (sym before);
      below = λ n l. plain-below b.asked b.pointed b.steps (Some own.index) n l;
      queue = is-queue ∙ sym (plain_at b.asked b.pointed b.steps own.index f.low ∙ rw (own.asked, before) refl);
      marks = λ u e h. let l = f.marks u e h in omega arith;
    })

  -- a fetch that finds nothing gets the number of its teller's mark
  module _ (w e v : ℕ) (o : Open T) (marked : s.saw w ≡ Some e) (open_order : s.order v ≡ Some o) (fetches : o.asked ≡ Asked.fetch) (placed : o.placing < e) where
    abbrev own-order : Paired b v o
    own-order = k.busy v o open_order

    here : MarkKnown b s w e
    here = k.mark w e marked

    unchanged : (n : ℕ) → plain (point_to b (record { number = e; worker = v; kind = Kind.None }) (Some own-order.index)) n ≡ plain b n
    unchanged = plain-insert b.asked b.pointed e own-order.index here.low here.free here.empty (own-order.asked ∙ fetches)

    lawful-earlier : Lawful b (unmarking s w) v o (record { number = e; kind = Kind.None; element = None }) own-order.index s.queue
    lawful-earlier =
        record {
          low = here.low;
          high = here.high;
          above = placed;
          free = here.free;
          kind = rw (fetches, here.empty) refl;
          element = rw (fetches, here.empty) refl;
          below = λ n l. unchanged n;
          queue = k.queue ∙ sym (unchanged b.steps);
          marks = λ u d h c. other-mark u d h c;
        }
      where
        other-mark : (u d : ℕ) → (unmarking s w).saw u ≡ Some d → d ≡ e → ⊥
        other-mark u d h c =
            let n : u ≢ w = grind (arith, put-tells) in
            let x = k.mark u d (sym (put_other s.saw w None u n) ∙ h) in
            let same : u ≡ w = grind (arith, x.own, here.own) in
            n same

  -- the teller's own order was placed before its step numbered n
  module _ (w : ℕ) (o : Open T) (busy : s.order w ≡ Some o) where
    own-before : (n : ℕ) → o.placing < n → (i : ℕ) → b.current w ≡ Some i → b.placing i < n
    own-before n l i e =
        let x = k.busy w o busy in
        let same : x.index ≡ i = grind (arith, x.current, e) in
        rw (← same, x.placing) l

    module _ (f : Fresh b s w) where
      given-now : (v : ℕ) (p : Open T) (kind : Kind) (element : Option T) (q : List T) (open_order : s.order v ≡ Some p) → p.given ≡ None → kind ≡ kind_from p.asked s.queue → element ≡ element_from p.asked s.queue → q ≡ fed p.asked s.queue → Known strict (after_point b (Some (record { number = s.steps; worker = v; kind = kind }))) (giving s v p (record { number = s.steps; kind = kind; element = element }) q)
      given-now v p kind element q open_order none is-kind is-element is-queue =
          let x = k.busy v p open_order in
          let g : Given T = record { number = s.steps; kind = kind; element = element } in
          let kept = known-given strict b s k v p g q open_order none (lawful-now w f v p kind element q open_order is-kind is-element is-queue) in
          subst (λ (c : Option ℕ). Known strict (point_to b (record { number = s.steps; worker = v; kind = kind }) c) (giving s v p g q)) (sym x.current) kept

      pointless : (v : ℕ) (p : Open T) (open_order : s.order v ≡ Some p) → p.given ≡ None → (i : ℕ) × (b.current v ≡ Some i) × (b.points i ≡ [])
      pointless v p open_order none =
          let x = k.busy v p open_order in
          (x.index, x.current, subst (λ (y : Option (Given T)). PointsOf b v x.index y) none x.points)

      earlier : (e : ℕ) → s.saw w ≡ Some e → Below strict e s.steps → EarlierStep strict b w e
      earlier e marked below =
          let here = k.mark w e marked in
          record { own = here.own; before = rw k.steps below; since = own-before e (here.since o busy) }

      present : strict ≡ false → EarlierStep strict b w s.steps
      present loose =
          let x = k.busy w o busy in
          let l = f.later x.index x.below in
          record {
            own = rw (← k.steps) f.own;
            before = subst (λ (t : Bool). Below t s.steps b.steps) (sym loose) (omega (arith, k.steps));
            since = own-before s.steps (omega (arith, x.placing, k.steps));
          }

      pub effect-known : {p : Option Point} {s₁ : Line T} → Effect strict s w p s₁ → PointFits strict b w p × Known strict (after_point b p) s₁
      unfolding known-unmarked
      effect-known Effect.nothing = (tt, k)
      effect-known (Effect.marks empty) = (tt, known-marked strict b s k w f empty)
      effect-known (Effect.appends v p x open_order asks none) =
          ((pointless v p open_order none, sym k.steps), given-now v p Kind.Post None (s.queue ++ x ∷ []) open_order none (rw asks refl) (rw asks refl) (rw asks refl))
      effect-known (Effect.takes v p y rest open_order asks none front) =
          ((pointless v p open_order none, sym k.steps), given-now v p Kind.Fetch (Some y) rest open_order none (rw (asks, front) refl) (rw (asks, front) refl) (rw (asks, front) refl))
      effect-known (Effect.empties v p e open_order asks none marked placed below) =
          let x = k.busy v p open_order in
          let g : Given T = record { number = e; kind = Kind.None; element = None } in
          let kept = known-given strict b (unmarking s w) (known-unmarked w) v p g s.queue open_order none (lawful-earlier w e v p marked open_order asks placed) in
          ((pointless v p open_order none, earlier e marked below), subst (λ (c : Option ℕ). Known strict (point_to b (record { number = e; worker = v; kind = Kind.None }) c) (giving (unmarking s w) v p g s.queue)) (sym x.current) kept)
      effect-known (Effect.finds_none v p loose open_order asks none empty) =
          ((pointless v p open_order none, present loose), given-now v p Kind.None None s.queue open_order none (rw (asks, empty) refl) (rw (asks, empty) refl) (rw (asks, empty) refl))
