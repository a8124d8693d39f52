-- Facts of one order pass to another book that agrees on that order and on the plain list below its point.
use Rattle.std.proofs.Common.{◌≡◌, ℕ, ◌-◌, ◌≤◌, Bool, [], ◌∷◌, Some, None, Option, sym, refl, ◌∙◌, arith}
use Rattle.promise.specs.AbstractLine.{Given, Open}
use Rattle.promise.specs.Books.{Book}
use Rattle.promise.specs.Events.{Point, Answer}
use Rattle.promise.specs.Order.{AnsweredBy}
use Rattle.promise.specs.PlainList.{plain}
use Rattle.promise.proofs.LineState.{PointsOf, Paired, PointKnown}

-- what a book says of the order i, unchanged
pub record SameOrder {T : Type 0} (b b' : Book T) (i : ℕ) : Type 0 where
  pub worker : b'.worker i ≡ b.worker i
  pub asked : b'.asked i ≡ b.asked i
  pub placing : b'.placing i ≡ b.placing i
  pub points : b'.points i ≡ b.points i
  pub plain : (p : Point) → b.points i ≡ p ∷ [] → plain b' (p.number - 1) ≡ plain b (p.number - 1)

module _ {T : Type 0} (b b' : Book T) (i : ℕ) (same : SameOrder b b' i) where
  pub points-moved : (w : ℕ) (g : Option (Given T)) → PointsOf b w i g → PointsOf b' w i g
  points-moved w None h = same.points ∙ h
  points-moved w (Some g) h =
      let here = same.plain (record { number = g.number; worker = w; kind = g.kind }) h.0 in
      (same.points ∙ h.0, h.1 ∙ rw (same.asked, here) refl)

  pub answered-moved : (strict : Bool) (a : Answer T) → b'.ended i ≡ b.ended i → AnsweredBy strict b i a → AnsweredBy strict b' i a
  answered-moved strict a ended x =
      let here = same.plain x.point x.only in
      record {
        point = x.point;
        only = same.points ∙ x.only;
        own_number = x.own_number ∙ sym ended;
        own_placing = x.own_placing ∙ sym same.placing;
        own_point = x.own_point;
        own_kind = x.own_kind;
        above_placing = rw same.placing x.above_placing;
        below_answer = x.below_answer;
        served = x.served ∙ rw (same.asked, here) refl;
      }

  pub point-moved : (p : Point) → b.points i ≡ p ∷ [] → b.steps ≤ b'.steps → b'.pointed p.number ≡ Some i → PointKnown b i p → PointKnown b' i p
  point-moved p only more own x =
      let here = same.plain p only in
      record {
        low = x.low;
        high = omega (arith, x.high);
        above = rw same.placing x.above;
        own = own;
        kind = x.kind ∙ rw (same.asked, here) refl;
      }

pub paired-moved : {T : Type 0} (b b' : Book T) (w : ℕ) (o : Open T) (x : Paired b w o) → SameOrder b b' x.index → b'.current w ≡ b.current w → b.count ≤ b'.count → b'.answer x.index ≡ b.answer x.index → Paired b' w o
paired-moved b b' w o x same current more answer =
    record {
      index = x.index;
      current = current ∙ x.current;
      below = omega (arith, x.below);
      mine = same.worker ∙ x.mine;
      asked = same.asked ∙ x.asked;
      placing = same.placing ∙ x.placing;
      unanswered = answer ∙ x.unanswered;
      points = points-moved b b' x.index same w o.given x.points;
    }
