-- Well told: each event fits what was told before it.
use Rattle.std.specs.Prelude.{◌≡◌, ℕ, ◌<◌, ◌≤◌, Bool, true, false, List, [], ◌∷◌, Some, None, Option}
use Rattle.vocabulary.specs.declared.kind.Kind.{Kind}
use Rattle.promise.specs.Events.{Event, Point, Answer, Told, told}
use Rattle.promise.specs.Books.{Book, blank, after_step, after_point, after_told}

-- whether a number has to lie below another, or may be equal to it
abbrev pub Below : Bool → ℕ → ℕ → Type 0
Below true a b = a < b
Below false a b = a ≤ b

-- the worker has an unanswered order
abbrev pub Busy : {T : Type 0} → Book T → ℕ → Type 0
Busy b w = (i : ℕ) × (b.current w ≡ Some i)

-- the number of a point of kind none is that of an earlier step of the worker that tells it, made since that worker's
-- own order was placed
pub record EarlierStep {T : Type 0} (strict : Bool) (b : Book T) (w : ℕ) (number : ℕ) : Type 0 where
  pub own : b.stepper number ≡ Some w
  pub before : Below strict number b.steps
  pub since : (i : ℕ) → b.current w ≡ Some i → b.placing i < number

-- a point of kind post or fetch has the number of the step that tells it
abbrev pub NumberFits : {T : Type 0} → Bool → Book T → ℕ → Kind → ℕ → Type 0
NumberFits strict b w Kind.Post number = number ≡ b.steps
NumberFits strict b w Kind.Fetch number = number ≡ b.steps
NumberFits strict b w Kind.None number = EarlierStep strict b w number

-- a point is of a worker with an unanswered order that has no point; w makes the step
abbrev pub PointFits : {T : Type 0} → Bool → Book T → ℕ → Option Point → Type 0
PointFits strict b w None = Unit {0}
PointFits strict b w (Some p) = ((i : ℕ) × (b.current p.worker ≡ Some i) × (b.points i ≡ [])) × NumberFits strict b w p.kind p.number

-- an answer is of the worker that makes the step, who has an unanswered order
abbrev pub AnswerFits : {T : Type 0} → Book T → ℕ → Option (Answer T) → Type 0
AnswerFits b w None = Unit {0}
AnswerFits b w (Some a) = (a.worker ≡ w) × Busy b w

abbrev pub Fits : {T : Type 0} → Bool → Book T → Told T → Type 0
Fits strict b (Told.refused n) = Unit {0}
-- no worker has two unanswered orders
Fits strict b (Told.placed w a) = b.current w ≡ None
-- a step is idle, and not counted, exactly if its worker has no unanswered order
Fits strict b (Told.idled w turn) = b.current w ≡ None
Fits strict b (Told.stepped w turn p a) = Busy b w × PointFits strict (after_step b w) w p × AnswerFits (after_point (after_step b w) p) w a
Fits strict b Told.misfit = ⊥

abbrev pub WellFrom : {T : Type 0} → Bool → Book T → List (Event T) → Type 0
WellFrom strict b [] = Unit {0}
WellFrom strict b (e ∷ t) = Fits strict b (told e) × WellFrom strict (after_told b (told e)) t

abbrev pub WellTold : {T : Type 0} → Bool → List (Event T) → Type 0
WellTold strict t = WellFrom strict blank t
