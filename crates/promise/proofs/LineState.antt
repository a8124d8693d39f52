-- What a book of orders and an abstract line know of each other. This is the invariant under which the line's moves are
-- well told and in order: points and marks are pairwise different numbers up to the steps counted, the plain list fed by
-- them is the line's queue, and it was empty at each mark.
use Rattle.std.proofs.Common.{◌≡◌, ℕ, ◌-◌, ◌<◌, ◌≤◌, Bool, [], ◌∷◌, length, Some, None, Option}
use Rattle.promise.specs.AbstractLine.{Given, Open, Line}
use Rattle.promise.specs.Books.{Book}
use Rattle.promise.specs.Events.{Point, Answer}
use Rattle.promise.specs.Order.{AnsweredBy}
use Rattle.promise.specs.PlainList.{kind_from, element_from, plain}

-- the points told for the order i of the worker w, by what its open order was given
abbrev pub PointsOf : {T : Type 0} → Book T → ℕ → ℕ → Option (Given T) → Type 0
PointsOf b w i None = b.points i ≡ []
PointsOf b w i (Some g) = (b.points i ≡ record { number = g.number; worker = w; kind = g.kind } ∷ []) × (g.element ≡ element_from (b.asked i) (plain b (g.number - 1)))

-- the line's open order o of the worker w is the book's unanswered order
pub record Paired {T : Type 0} (b : Book T) (w : ℕ) (o : Open T) : Type 0 where
  pub index : ℕ
  pub current : b.current w ≡ Some index
  pub below : index < b.count
  pub mine : b.worker index ≡ w
  pub asked : b.asked index ≡ o.asked
  pub placing : b.placing index ≡ o.placing
  pub unanswered : b.answer index ≡ None
  pub points : PointsOf b w index o.given

-- a point that the order i has
pub record PointKnown {T : Type 0} (b : Book T) (i : ℕ) (p : Point) : Type 0 where
  pub low : 1 ≤ p.number
  pub high : p.number ≤ b.steps
  pub above : b.placing i < p.number
  pub own : b.pointed p.number ≡ Some i
  pub kind : p.kind ≡ kind_from (b.asked i) (plain b (p.number - 1))

-- the order i that has the point numbered q
pub record OwnerKnown {T : Type 0} (b : Book T) (q i : ℕ) : Type 0 where
  pub below : i < b.count
  pub point : Point
  pub only : b.points i ≡ point ∷ []
  pub number : point.number ≡ q

-- the step numbered e of the worker w saw the queue empty
pub record MarkKnown {T : Type 0} (b : Book T) (s : Line T) (w e : ℕ) : Type 0 where
  pub low : 1 ≤ e
  pub high : e ≤ b.steps
  pub free : b.pointed e ≡ None
  pub empty : plain b (e - 1) ≡ []
  pub own : b.stepper e ≡ Some w
  pub since : (o : Open T) → s.order w ≡ Some o → o.placing < e

pub record Known {T : Type 0} (strict : Bool) (b : Book T) (s : Line T) : Type 0 where
  pub steps : b.steps ≡ s.steps
  pub idle : (w : ℕ) → s.order w ≡ None → b.current w ≡ None
  pub busy : (w : ℕ) (o : Open T) → s.order w ≡ Some o → Paired b w o
  pub mark : (w e : ℕ) → s.saw w ≡ Some e → MarkKnown b s w e
  pub point : (i : ℕ) (p : Point) → i < b.count → b.points i ≡ p ∷ [] → PointKnown b i p
  pub owner : (q i : ℕ) → b.pointed q ≡ Some i → OwnerKnown b q i
  pub single : (i : ℕ) → i < b.count → length (b.points i) ≤ 1
  pub placed : (i : ℕ) → i < b.count → b.placing i ≤ b.steps
  pub answered : (i : ℕ) (a : Answer T) → i < b.count → b.answer i ≡ Some a → AnsweredBy strict b i a
  pub queue : s.queue ≡ plain b b.steps

-- the last counted step was the worker w's and is still free: no point and no mark has its number
pub record Fresh {T : Type 0} (b : Book T) (s : Line T) (w : ℕ) : Type 0 where
  pub low : 1 ≤ b.steps
  pub free : b.pointed b.steps ≡ None
  pub own : b.stepper b.steps ≡ Some w
  pub later : (i : ℕ) → i < b.count → b.placing i < b.steps
  pub marks : (v e : ℕ) → s.saw v ≡ Some e → e < b.steps
