-- Order by points.
use Rattle.std.specs.Prelude.{◌≡◌, ℕ, ◌-◌, ◌<◌, ◌≤◌, Bool, List, [], ◌∷◌, length, Some}
use Rattle.promise.specs.Events.{Point, Answer}
use Rattle.promise.specs.Books.{Book}
use Rattle.promise.specs.PlainList.{kind_from, element_from, plain}
use Rattle.promise.specs.WellTold.{Below}

-- the order i was answered by a: it has exactly one point, which lies above its placing and below its answer; the answer
-- tells the order's own placing, point, kind and element, and the number of the step that tells it
pub record AnsweredBy {T : Type 0} (strict : Bool) (b : Book T) (i : ℕ) (a : Answer T) : Type 0 where
  pub point : Point
  pub only : b.points i ≡ point ∷ []
  pub own_number : a.number ≡ b.ended i
  pub own_placing : a.placing ≡ b.placing i
  pub own_point : a.point ≡ point.number
  pub own_kind : a.kind ≡ point.kind
  pub above_placing : b.placing i < point.number
  pub below_answer : Below strict point.number a.number
  pub served : a.element ≡ element_from (b.asked i) (plain b (point.number - 1))

-- what a book tells, and the list that is left, are in order
pub record InOrder {T : Type 0} (strict : Bool) (b : Book T) (left : List T) : Type 0 where
  pub answered : (i : ℕ) (a : Answer T) → i < b.count → b.answer i ≡ Some a → AnsweredBy strict b i a
  -- no order has two points, and no two orders share one
  pub single : (i : ℕ) → i < b.count → length (b.points i) ≤ 1
  pub apart : (i j : ℕ) (p q : Point) → i < b.count → j < b.count → b.points i ≡ p ∷ [] → b.points j ≡ q ∷ [] → p.number ≡ q.number → i ≡ j
  -- a point lies above its order's placing, and has the kind that the plain list gives
  pub above : (i : ℕ) (p : Point) → i < b.count → b.points i ≡ p ∷ [] → b.placing i < p.number
  pub kinds : (i : ℕ) (p : Point) → i < b.count → b.points i ≡ p ∷ [] → p.kind ≡ kind_from (b.asked i) (plain b (p.number - 1))
  -- what is left is what the plain list holds after all points
  pub remains : left ≡ plain b b.steps
