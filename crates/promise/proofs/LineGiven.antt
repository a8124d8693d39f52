-- A point that is given to an open order keeps the invariant.
use Rattle.std.proofs.Common.{◌≡◌, ℕ, ◌-◌, ◌<◌, ◌≤◌, Bool, ◌≢◌, ◌⊎◌, List, [], ◌∷◌, ◌++◌, length, Some, None, Option, sym, refl, ap, ◌∙◌, subst, inl, inr, arith}
use Rattle.std.proofs.lemmas.Bool.{cases_eq}
use Rattle.promise.specs.AbstractLine.{Given, Open, Line, giving}
use Rattle.promise.specs.Books.{Book, point_to}
use Rattle.promise.specs.Events.{Point, Answer}
use Rattle.promise.specs.Order.{AnsweredBy}
use Rattle.promise.specs.PlainList.{kind_from, element_from, plain}
use Rattle.promise.proofs.LineMoved.{SameOrder, answered-moved, point-moved, paired-moved}
use Rattle.promise.proofs.LineState.{PointsOf, Paired, PointKnown, OwnerKnown, MarkKnown, Known}
use Rattle.promise.proofs.MapLaws.{put_same, put_other, put-tells}

-- what makes a point g lawful for v's open order o, after which the queue is q
pub record Lawful {T : Type 0} (b : Book T) (s : Line T) (v : ℕ) (o : Open T) (g : Given T) (i : ℕ) (q : List T) : Type 0 where
  pub low : 1 ≤ g.number
  pub high : g.number ≤ b.steps
  pub above : o.placing < g.number
  pub free : b.pointed g.number ≡ None
  pub kind : g.kind ≡ kind_from o.asked (plain b (g.number - 1))
  pub element : g.element ≡ element_from o.asked (plain b (g.number - 1))
  -- the plain list is as it was below the present step, and the queue is what it is now
  pub below : (n : ℕ) → n < b.steps → plain (point_to b (record { number = g.number; worker = v; kind = g.kind }) (Some i)) n ≡ plain b n
  pub queue : q ≡ plain (point_to b (record { number = g.number; worker = v; kind = g.kind }) (Some i)) b.steps
  -- no mark has the number
  pub marks : (u e : ℕ) → s.saw u ≡ Some e → e ≢ g.number

one-is-not-none : (p : Point) → p ∷ [] ≡ [] → ⊥
one-is-not-none p c = grind arith

module _ {T : Type 0} (strict : Bool) (b : Book T) (s : Line T) (k : Known strict b s) (v : ℕ) (o : Open T) (g : Given T) (q : List T) (open_order : s.order v ≡ Some o) (none : o.given ≡ None) (fit : Lawful b s v o g (k.busy v o open_order).index q) where
  abbrev own : Paired b v o
  own = k.busy v o open_order

  abbrev point : Point
  point = record { number = g.number; worker = v; kind = g.kind }

  abbrev pub after_given : Book T
  after_given = point_to b point (Some own.index)

  abbrev line_given : Line T
  line_given = giving s v o g q

  pub no-points : b.points own.index ≡ []
  no-points = subst (λ (x : Option (Given T)). PointsOf b v own.index x) none own.points

  own-points : after_given.points own.index ≡ point ∷ []
  own-points = put_same b.points own.index _ ∙ ap (λ ps. ps ++ point ∷ []) no-points

  other-order : (i : ℕ) → i < b.count → i ≢ own.index → SameOrder b after_given i
  other-order i l n =
      record {
        worker = refl;
        asked = refl;
        placing = refl;
        points = put_other b.points own.index _ i n;
        plain = λ p e. let x = k.point i p l e in let lo = x.low in let hi = x.high in fit.below (p.number - 1) (omega arith);
      }

  number-below : g.number - 1 < b.steps
  number-below = let lo = fit.low in let hi = fit.high in omega arith

  same-before : plain after_given (g.number - 1) ≡ plain b (g.number - 1)
  same-before = fit.below (g.number - 1) number-below

  pub own_point : PointKnown after_given own.index point
  own_point =
      record {
        low = fit.low;
        high = fit.high;
        above = rw own.placing fit.above;
        own = put_same b.pointed g.number (Some own.index);
        kind = fit.kind ∙ rw (own.asked, same-before) refl;
      }

  own-paired : Paired after_given v (record { asked = o.asked; placing = o.placing; given = Some g })
  own-paired =
      record {
        index = own.index;
        current = own.current;
        below = own.below;
        mine = own.mine;
        asked = own.asked;
        placing = own.placing;
        unanswered = own.unanswered;
        points = (own-points, fit.element ∙ rw (own.asked, same-before) refl);
      }

  busy-given : (u : ℕ) (p : Open T) → line_given.order u ≡ Some p → Paired after_given u p
  busy-given u p e = go (cases_eq u v)
    where
      go : (u ≡ v) ⊎ (u ≡ v → ⊥) → Paired after_given u p
      go (inl h) =
          let same : record { asked = o.asked; placing = o.placing; given = Some g } ≡ p = grind (arith, put-tells) in
          rw (h, ← same) own-paired
      go (inr n) =
          let x = k.busy u p (sym (put_other s.order v _ u n) ∙ e) in
          let m : x.index ≢ own.index = λ d. n (sym x.mine ∙ ap b.worker d ∙ own.mine) in
          paired-moved b after_given u p x (other-order x.index x.below m) refl (omega arith) refl

  mark-given : (u e : ℕ) → line_given.saw u ≡ Some e → MarkKnown after_given line_given u e
  mark-given u e h =
      let x = k.mark u e h in
      let lo = x.low in
      let hi = x.high in
      record {
        low = x.low;
        high = x.high;
        free = put_other b.pointed g.number (Some own.index) e (fit.marks u e h) ∙ x.free;
        empty = fit.below (e - 1) (omega arith) ∙ x.empty;
        own = x.own;
        since = λ p d. go p d (cases_eq u v);
      }
    where
      go : (p : Open T) → line_given.order u ≡ Some p → (u ≡ v) ⊎ (u ≡ v → ⊥) → p.placing < e
      go p d (inl c) =
          let same : record { asked = o.asked; placing = o.placing; given = Some g } ≡ p = grind (arith, put-tells) in
          let old = (k.mark u e h).since o (ap s.order c ∙ open_order) in
          omega (arith, old, ap (λ z. z.placing) same)
      go p d (inr n) = (k.mark u e h).since p (sym (put_other s.order v _ u n) ∙ d)

  point-given : (i : ℕ) (p : Point) → i < b.count → after_given.points i ≡ p ∷ [] → PointKnown after_given i p
  point-given i p l e = go (cases_eq i own.index)
    where
      go : (i ≡ own.index) ⊎ (i ≡ own.index → ⊥) → PointKnown after_given i p
      go (inl h) =
          let same : point ≡ p = grind (arith, own-points) in
          rw (h, ← same) own_point
      go (inr n) =
          let only = sym (put_other b.points own.index _ i n) ∙ e in
          let x = k.point i p l only in
          let apart : p.number ≢ g.number = grind (arith, x.own, fit.free) in
          point-moved b after_given i (other-order i l n) p only (omega arith) (put_other b.pointed g.number (Some own.index) p.number apart ∙ x.own) x

  owner-given : (n i : ℕ) → after_given.pointed n ≡ Some i → OwnerKnown after_given n i
  owner-given n i e = go (cases_eq n g.number)
    where
      go : (n ≡ g.number) ⊎ (n ≡ g.number → ⊥) → OwnerKnown after_given n i
      go (inl h) =
          let same : own.index ≡ i = grind (arith, put-tells) in
          record { below = rw (← same) own.below; point = point; only = rw (← same) own-points; number = sym h }
      go (inr d) =
          let x = k.owner n i (sym (put_other b.pointed g.number (Some own.index) n d) ∙ e) in
          let m : i ≢ own.index = λ c. one-is-not-none x.point (sym x.only ∙ ap b.points c ∙ no-points) in
          record { below = x.below; point = x.point; only = put_other b.points own.index _ i m ∙ x.only; number = x.number }

  single-given : (i : ℕ) → i < b.count → length (after_given.points i) ≤ 1
  single-given i l = elim (cases_eq i own.index) [
    | inl h ↦ rw (h, own-points) (omega arith)
    | inr n ↦ rw (put_other b.points own.index (b.points own.index ++ point ∷ []) i n) (k.single i l)
  ]

  answered-given : (i : ℕ) (a : Answer T) → i < b.count → b.answer i ≡ Some a → AnsweredBy strict after_given i a
  answered-given i a l e =
      let n : i ≢ own.index = λ h. grind (arith, own.unanswered, e, h) in
      answered-moved b after_given i (other-order i l n) strict a refl (k.answered i a l e)

  pub known-given : Known strict after_given line_given
  known-given =
      record {
        steps = k.steps;
        idle = λ u e. grind (arith, put-tells, k.idle u);
        busy = busy-given;
        mark = mark-given;
        point = point-given;
        owner = owner-given;
        single = single-given;
        placed = k.placed;
        answered = answered-given;
        queue = fit.queue;
      }
