-- What a list of events tells of its orders: who placed which order and when, the points and answers told for it.
use Rattle.std.specs.Prelude.{ℕ, ◌+◌, List, [], ◌∷◌, ◌++◌, Some, None, Option}
use Rattle.promise.specs.Maps.{put}
use Rattle.promise.specs.Events.{Event, Asked, Point, Answer, Told, told}

-- orders have serial numbers from 0, in the sequence of their placings
pub record Book (T : Type 0) : Type 0 where
  -- how many orders were placed, and how many steps counted
  pub count : ℕ
  pub steps : ℕ
  -- of each order: its worker, what it asked, the steps counted when it was placed
  pub worker : ℕ → ℕ
  pub asked : ℕ → Asked T
  pub placing : ℕ → ℕ
  -- the points told for it, its answer if one was told, and the steps counted by then
  pub points : ℕ → List Point
  pub answer : ℕ → Option (Answer T)
  pub ended : ℕ → ℕ
  -- of each worker: its unanswered order
  pub current : ℕ → Option ℕ
  -- of each counted step: who made it, and the order that has that step's number as its point
  pub stepper : ℕ → Option ℕ
  pub pointed : ℕ → Option ℕ

abbrev pub blank : {T : Type 0} → Book T
blank = record { count = 0; steps = 0; worker = λ i. 0; asked = λ i. Asked.fetch; placing = λ i. 0; points = λ i. []; answer = λ i. None; ended = λ i. 0; current = λ w. None; stepper = λ p. None; pointed = λ p. None }

-- one order more
abbrev pub after_placing : {T : Type 0} → Book T → ℕ → Asked T → Book T
after_placing b w a = record b { count = b.count + 1; worker = put b.worker b.count w; asked = put b.asked b.count a; placing = put b.placing b.count b.steps; points = put b.points b.count []; answer = put b.answer b.count None; current = put b.current w (Some b.count) }

-- one counted step more, of the worker w
abbrev pub after_step : {T : Type 0} → Book T → ℕ → Book T
after_step b w = record b { steps = b.steps + 1; stepper = put b.stepper (b.steps + 1) (Some w) }

-- a point goes to its worker's unanswered order
abbrev pub point_to : {T : Type 0} → Book T → Point → Option ℕ → Book T
point_to b p None = b
point_to b p (Some i) = record b { points = put b.points i (b.points i ++ p ∷ []); pointed = put b.pointed p.number (Some i) }

abbrev pub after_point : {T : Type 0} → Book T → Option Point → Book T
after_point b None = b
after_point b (Some p) = point_to b p (b.current p.worker)

-- an answer ends its worker's unanswered order
abbrev pub answer_to : {T : Type 0} → Book T → Answer T → Option ℕ → Book T
answer_to b a None = b
answer_to b a (Some i) = record b { answer = put b.answer i (Some a); ended = put b.ended i b.steps; current = put b.current a.worker None }

abbrev pub after_answer : {T : Type 0} → Book T → Option (Answer T) → Book T
after_answer b None = b
after_answer b (Some a) = answer_to b a (b.current a.worker)

abbrev pub after_told : {T : Type 0} → Book T → Told T → Book T
after_told b (Told.refused n) = b
after_told b (Told.placed w a) = after_placing b w a
after_told b (Told.idled w turn) = b
after_told b (Told.stepped w turn p a) = after_answer (after_point (after_step b w) p) a
after_told b Told.misfit = b

abbrev pub book_from : {T : Type 0} → Book T → List (Event T) → Book T
book_from b [] = b
book_from b (e ∷ t) = book_from (after_told b (told e)) t

abbrev pub book_of : {T : Type 0} → List (Event T) → Book T
book_of t = book_from blank t
