-- A step that answers its worker's order keeps the invariant.
use Rattle.std.proofs.Common.{◌≡◌, ℕ, ◌<◌, Bool, ◌≢◌, ◌⊎◌, Some, None, Option, sym, refl, ap, ◌∙◌, subst, inl, inr, arith}
use Rattle.std.proofs.lemmas.Bool.{cases_eq}
use Rattle.promise.specs.AbstractLine.{Given, Open, Line, ending}
use Rattle.promise.specs.Books.{Book, answer_to}
use Rattle.promise.specs.Events.{Point, Answer}
use Rattle.promise.specs.Order.{AnsweredBy}
use Rattle.promise.specs.WellTold.{Below}
use Rattle.promise.proofs.LineMoved.{SameOrder, answered-moved, point-moved, paired-moved}
use Rattle.promise.proofs.LineState.{PointsOf, Paired, MarkKnown, Known}
use Rattle.promise.proofs.MapLaws.{put_same, put_other, put-tells}

-- the order o of w, whose point is g, is answered at the present step
module _ {T : Type 0} (strict : Bool) (b : Book T) (s : Line T) (k : Known strict b s) (w : ℕ) (o : Open T) (g : Given T) (open_order : s.order w ≡ Some o) (given : o.given ≡ Some g) (below : Below strict g.number s.steps) where
  abbrev said : Answer T
  said = record { worker = w; kind = g.kind; placing = o.placing; point = g.number; number = s.steps; element = g.element }

  abbrev own : Paired b w o
  own = k.busy w o open_order

  abbrev pub after_said : Book T
  after_said = answer_to b said (Some own.index)

  same-order : (i : ℕ) → SameOrder b after_said i
  same-order i = record { worker = refl; asked = refl; placing = refl; points = refl; plain = λ p e. refl }

  -- another worker's order is another order
  other-index : (v : ℕ) (p : Open T) (x : Paired b v p) → v ≢ w → x.index ≢ own.index
  other-index v p x n e = n (sym x.mine ∙ ap b.worker e ∙ own.mine)

  own-points : PointsOf b w own.index (Some g)
  own-points = subst (λ (x : Option (Given T)). PointsOf b w own.index x) given own.points

  pub answered-now : AnsweredBy strict after_said own.index said
  answered-now =
      let p : Point = record { number = g.number; worker = w; kind = g.kind } in
      let x = k.point own.index p own.below own-points.0 in
      record {
        point = p;
        only = own-points.0;
        own_number = sym (put_same b.ended own.index b.steps ∙ k.steps);
        own_placing = sym own.placing;
        own_point = refl;
        own_kind = refl;
        above_placing = x.above;
        below_answer = below;
        served = own-points.1;
      }

  busy-ended : (v : ℕ) (p : Open T) → (ending s w).order v ≡ Some p → Paired after_said v p
  busy-ended v p e =
      let n : v ≢ w = grind (arith, put-tells) in
      let x = k.busy v p (sym (put_other s.order w None v n) ∙ e) in
      paired-moved b after_said v p x (same-order x.index) (put_other b.current w None v n) (omega arith) (put_other b.answer own.index (Some said) x.index (other-index v p x n))

  mark-ended : (v e : ℕ) → (ending s w).saw v ≡ Some e → MarkKnown after_said (ending s w) v e
  mark-ended v e h =
      let n : v ≢ w = grind (arith, put-tells) in
      let x = k.mark v e (sym (put_other s.saw w None v n) ∙ h) in
      record { low = x.low; high = x.high; free = x.free; empty = x.empty; own = x.own; since = λ p q. x.since p (sym (put_other s.order w None v n) ∙ q) }

  answered-ended : (i : ℕ) (a : Answer T) → i < b.count → after_said.answer i ≡ Some a → AnsweredBy strict after_said i a
  answered-ended i a l e = go (cases_eq i own.index)
    where
      go : (i ≡ own.index) ⊎ (i ≡ own.index → ⊥) → AnsweredBy strict after_said i a
      go (inl h) =
          let same : said ≡ a = grind (arith, put-tells) in
          rw (h, ← same) answered-now
      go (inr n) = answered-moved b after_said i (same-order i) strict a (put_other b.ended own.index b.steps i n) (k.answered i a l (sym (put_other b.answer own.index (Some said) i n) ∙ e))

  pub known-ended : Known strict after_said (ending s w)
  known-ended =
      record {
        steps = k.steps;
        idle = λ v e. grind (arith, put-tells, k.idle v);
        busy = busy-ended;
        mark = mark-ended;
        point = λ i p l e. point-moved b after_said i (same-order i) p e (omega arith) (k.point i p l e).own (k.point i p l e);
        owner = λ q i e. let x = k.owner q i e in record { below = x.below; point = x.point; only = x.only; number = x.number };
        single = k.single;
        placed = k.placed;
        answered = answered-ended;
        queue = k.queue;
      }
