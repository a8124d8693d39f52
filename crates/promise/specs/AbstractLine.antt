-- An abstract line of orders: a queue, and each worker's unanswered order with its point. It knows nothing of how a
-- queue is stored or of what a step touches; a queue that moves like it keeps the order by points.
use Rattle.std.specs.Prelude.{◌≡◌, ℕ, ◌+◌, ◌<◌, Bool, false, List, [], ◌∷◌, ◌++◌, Some, None, Option}
use Rattle.vocabulary.specs.declared.kind.Kind.{Kind}
use Rattle.vocabulary.specs.declared.refusal.Refusal.{Refusal}
use Rattle.promise.specs.Books.{book_of}
use Rattle.promise.specs.Events.{Event, Asked, Point, Answer, Told, told}
use Rattle.promise.specs.Maps.{put}
use Rattle.promise.specs.Order.{InOrder}
use Rattle.promise.specs.WellTold.{Below, WellTold}

-- a point that an order has: its number and kind, and the element that its answer will tell
pub record Given (T : Type 0) : Type 0 where
  pub number : ℕ
  pub kind : Kind
  pub element : Option T

-- an unanswered order
pub record Open (T : Type 0) : Type 0 where
  pub asked : Asked T
  pub placing : ℕ
  pub given : Option (Given T)

pub record Line (T : Type 0) : Type 0 where
  pub queue : List T
  pub steps : ℕ
  -- each worker's unanswered order
  pub order : ℕ → Option (Open T)
  -- the number of each worker's latest step that saw the queue empty, until it becomes a point
  pub saw : ℕ → Option ℕ

abbrev pub empty_line : {T : Type 0} → Line T
empty_line = record { queue = []; steps = 0; order = λ w. None; saw = λ w. None }

-- a worker without an order places one
abbrev pub placing : {T : Type 0} → Line T → ℕ → Asked T → Line T
placing s w a = record s { order = put s.order w (Some (record { asked = a; placing = s.steps; given = None })); saw = put s.saw w None }

-- a step is counted
abbrev pub counting : {T : Type 0} → Line T → Line T
counting s = record s { steps = s.steps + 1 }

-- the worker's step saw the queue empty
abbrev pub marking : {T : Type 0} → Line T → ℕ → Line T
marking s w = record s { saw = put s.saw w (Some s.steps) }

-- k's order gets a point, and the queue becomes q
abbrev pub giving : {T : Type 0} → Line T → ℕ → Open T → Given T → List T → Line T
giving s k o g q = record s { queue = q; order = put s.order k (Some (record o { given = Some g })) }

-- the worker's mark becomes a point
abbrev pub unmarking : {T : Type 0} → Line T → ℕ → Line T
unmarking s w = record s { saw = put s.saw w None }

-- the worker's order ends
abbrev pub ending : {T : Type 0} → Line T → ℕ → Line T
ending s w = record s { order = put s.order w None; saw = put s.saw w None }

-- what a counted step of the worker w may do to the line, and the point that it tells. Numbers are the step's own, but
-- for a fetch that finds nothing: it gets the number of an earlier step of w that saw the queue empty, or of this one
-- where points need not lie strictly below answers
pub data Effect {T : Type 0} (strict : Bool) (s : Line T) (w : ℕ) : Option Point → Line T → Type 0 where
  nothing : Effect strict s w None s
  marks : s.queue ≡ [] → Effect strict s w None (marking s w)
  appends : (k : ℕ) (o : Open T) (x : T) → s.order k ≡ Some o → o.asked ≡ Asked.post x → o.given ≡ None
      → Effect strict s w (Some (record { number = s.steps; worker = k; kind = Kind.Post })) (giving s k o (record { number = s.steps; kind = Kind.Post; element = None }) (s.queue ++ x ∷ []))
  takes : (k : ℕ) (o : Open T) (y : T) (rest : List T) → s.order k ≡ Some o → o.asked ≡ Asked.fetch → o.given ≡ None → s.queue ≡ y ∷ rest
      → Effect strict s w (Some (record { number = s.steps; worker = k; kind = Kind.Fetch })) (giving s k o (record { number = s.steps; kind = Kind.Fetch; element = Some y }) rest)
  empties : (k : ℕ) (o : Open T) (e : ℕ) → s.order k ≡ Some o → o.asked ≡ Asked.fetch → o.given ≡ None → s.saw w ≡ Some e → o.placing < e → Below strict e s.steps
      → Effect strict s w (Some (record { number = e; worker = k; kind = Kind.None })) (giving (unmarking s w) k o (record { number = e; kind = Kind.None; element = None }) s.queue)
  finds_none : (k : ℕ) (o : Open T) → strict ≡ false → s.order k ≡ Some o → o.asked ≡ Asked.fetch → o.given ≡ None → s.queue ≡ []
      → Effect strict s w (Some (record { number = s.steps; worker = k; kind = Kind.None })) (giving s k o (record { number = s.steps; kind = Kind.None; element = None }) s.queue)

-- a step may answer the order of the worker that makes it, if that order has its point
pub data Ending {T : Type 0} (strict : Bool) (s : Line T) (w : ℕ) : Option (Answer T) → Line T → Type 0 where
  goes_on : Ending strict s w None s
  answers : (o : Open T) (g : Given T) → s.order w ≡ Some o → o.given ≡ Some g → Below strict g.number s.steps
      → Ending strict s w (Some (record { worker = w; kind = g.kind; placing = o.placing; point = g.number; number = s.steps; element = g.element })) (ending s w)

-- one move, with what it tells
pub data Move {T : Type 0} (strict : Bool) (s : Line T) : Told T → Line T → Type 0 where
  refuses : (n : Refusal) → Move strict s (Told.refused n) s
  idles : (w : ℕ) (turn : Bool) → s.order w ≡ None → Move strict s (Told.idled w turn) s
  places : (w : ℕ) (a : Asked T) → s.order w ≡ None → Move strict s (Told.placed w a) (placing s w a)
  steps : (w : ℕ) (turn : Bool) (o : Open T) {p : Option Point} {a : Option (Answer T)} {s₁ s₂ : Line T} → s.order w ≡ Some o → Effect strict (counting s) w p s₁ → Ending strict s₁ w a s₂ → Move strict s (Told.stepped w turn p a) s₂

-- a sequence of moves, one for each event
pub data Moves {T : Type 0} (strict : Bool) : Line T → List (Event T) → Line T → Type 0 where
  done : {s : Line T} → Moves strict s [] s
  more : {s s₁ s₂ : Line T} {e : Event T} {t : List (Event T)} → Move strict s (told e) s₁ → Moves strict s₁ t s₂ → Moves strict s (e ∷ t) s₂

-- every sequence of moves from the empty line is well told and in order, and the line then holds what is left
abbrev pub LineKeepsOrder : Type 0 → Type 0
LineKeepsOrder T = (strict : Bool) (t : List (Event T)) (s : Line T) → Moves strict empty_line t s → WellTold strict t × InOrder strict (book_of t) s.queue
