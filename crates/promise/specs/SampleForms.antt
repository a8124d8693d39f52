-- Sample transcripts, whose elements are numbers: how they are written down, and what is said of one.
use Rattle.std.specs.Prelude.{ℕ, zero, suc, ◌≤◌, true, List, [], ◌∷◌, ◌++◌, Some, None, Option}
use Rattle.vocabulary.specs.declared.kind.Kind.{Kind}
use Rattle.vocabulary.specs.declared.refusal.Refusal.{Refusal}
use Rattle.promise.specs.declared.call.Call.{Call}
use Rattle.promise.specs.declared.reply.Reply.{Reply}
use Rattle.promise.specs.Books.{book_of}
use Rattle.promise.specs.Events.{Event}
use Rattle.promise.specs.Limits.{OwnStepLimit, TurnLimit, NamedBy}
use Rattle.promise.specs.Order.{InOrder}
use Rattle.promise.specs.Promise.{Promise}
use Rattle.promise.specs.WellTold.{WellTold}

-- Events

-- a call, who makes a step of it, the reply
abbrev pub event : Call ℕ → Option ℕ → Reply ℕ → Event ℕ
event c who r = record { call = c; who = who; reply = r }

-- w posts x
abbrev pub posts : ℕ → ℕ → Event ℕ
posts w x = event (Call.Post w x) None Reply.Accepted

-- w fetches
abbrev pub fetches : ℕ → Event ℕ
fetches w = event (Call.Fetch w) None Reply.Accepted

-- a call is refused
abbrev pub refuses : Call ℕ → Refusal → Event ℕ
refuses c n = event c None (Reply.Refused n)

-- w makes a step, or gets a turn, with this reply
abbrev pub steps : ℕ → Reply ℕ → Event ℕ
steps w r = event (Call.Step w) (Some w) r

abbrev pub turns : ℕ → Reply ℕ → Event ℕ
turns w r = event Call.Turn (Some w) r

-- w makes a step of which there is nothing more to tell, counted or idle
abbrev pub works : ℕ → Event ℕ
works w = steps w Reply.Worked

abbrev pub idles : ℕ → Event ℕ
idles w = steps w Reply.Idle

-- w's step tells the number and kind of the point of v's order
abbrev pub points : ℕ → ℕ → ℕ → Kind → Event ℕ
points w number v kind = steps w (Reply.Point number v kind)

-- w's step answers w's order, which was placed after l steps and has the point p; s is the step's own number
abbrev pub answers_post : ℕ → ℕ → ℕ → ℕ → Event ℕ
answers_post w l p s = steps w (Reply.Answered w Kind.Post l p s None)

abbrev pub answers_fetch : ℕ → ℕ → ℕ → ℕ → ℕ → Event ℕ
answers_fetch w l p s x = steps w (Reply.Answered w Kind.Fetch l p s (Some x))

abbrev pub answers_none : ℕ → ℕ → ℕ → ℕ → Event ℕ
answers_none w l p s = steps w (Reply.Answered w Kind.None l p s None)

-- the events t so many times, then the events u
abbrev pub times : ℕ → List (Event ℕ) → List (Event ℕ) → List (Event ℕ)
times zero t u = u
times (suc n) t u = t ++ times n t u

-- Samples

-- a transcript of a crew, and what is left at its end
pub record Sample : Type 0 where
  pub crew : ℕ
  pub events : List (Event ℕ)
  pub left : List ℕ

-- worker 0 posts 7, in the steps 1 and 2
abbrev pub posted : List (Event ℕ)
posted = posts 0 7 ∷ points 0 1 0 Kind.Post ∷ answers_post 0 0 1 2 ∷ []

-- worker 0 fetches and finds nothing, in the steps 1 to 3; its point is the first of them
abbrev pub found_nothing : List (Event ℕ)
found_nothing = fetches 0 ∷ works 0 ∷ points 0 1 0 Kind.None ∷ answers_none 0 0 1 3 ∷ []

-- a sample of a crew of two
abbrev pub two : List (Event ℕ) → List ℕ → Sample
two t left = record { crew = 2; events = t; left = left }

-- The four parts of the promise

abbrev pub IsWellTold : Sample → Type 0
IsWellTold s = WellTold true s.events

abbrev pub IsInOrder : Sample → Type 0
IsInOrder s = InOrder true (book_of s.events) s.left

abbrev pub IsInOwnSteps : Sample → Type 0
IsInOwnSteps s = OwnStepLimit s.crew s.events

abbrev pub IsInTurns : Sample → Type 0
IsInTurns s = (W : ℕ) → s.crew ≤ W → W ≤ 1024 → TurnLimit s.crew W s.events

-- all of them
abbrev pub Kept : Sample → Type 0
Kept s = Promise s.crew s.events s.left

-- the parts that a wrong sample breaks, while it keeps the others
pub data Broken : Type 0 where
  telling : Broken
  order : Broken
  telling_and_order : Broken
  own_steps : Broken

abbrev pub Breaks : Broken → Sample → Type 0
Breaks Broken.telling s = (IsWellTold s → ⊥) × IsInOrder s × IsInOwnSteps s × IsInTurns s
Breaks Broken.order s = IsWellTold s × (IsInOrder s → ⊥) × IsInOwnSteps s × IsInTurns s
Breaks Broken.telling_and_order s = (IsWellTold s → ⊥) × (IsInOrder s → ⊥) × IsInOwnSteps s × IsInTurns s
Breaks Broken.own_steps s = IsWellTold s × IsInOrder s × (IsInOwnSteps s → ⊥) × IsInTurns s

-- a wrong sample, what it breaks, and a right one: the same with the one thing put right
pub record Pair : Type 0 where
  pub broken : Broken
  pub wrong : Sample
  pub right : Sample

-- a wrong sample and a right one, by what the wrong one breaks
abbrev pub ill_told : Sample → Sample → Pair
ill_told s r = record { broken = Broken.telling; wrong = s; right = r }

abbrev pub out_of_order : Sample → Sample → Pair
out_of_order s r = record { broken = Broken.order; wrong = s; right = r }

abbrev pub ill_told_and_out_of_order : Sample → Sample → Pair
ill_told_and_out_of_order s r = record { broken = Broken.telling_and_order; wrong = s; right = r }

abbrev pub too_many_steps : Sample → Sample → Pair
too_many_steps s r = record { broken = Broken.own_steps; wrong = s; right = r }

-- the promise tells the two apart
abbrev pub ToldApart : Pair → Type 0
ToldApart p = Breaks p.broken p.wrong × Kept p.right

-- a picker of the window may name the turns, and they are too many; the other parts are kept
abbrev pub BreaksTurns : ℕ → Sample → Type 0
BreaksTurns W s = IsWellTold s × IsInOrder s × IsInOwnSteps s × NamedBy s.crew W s.events × (TurnLimit s.crew W s.events → ⊥)

-- they are too many, and so are a worker's own steps among them
abbrev pub BreaksLimits : ℕ → Sample → Type 0
BreaksLimits W s = IsWellTold s × IsInOrder s × (IsInOwnSteps s → ⊥) × NamedBy s.crew W s.events × (TurnLimit s.crew W s.events → ⊥)

-- a picker of the window may name the turns, and the promise is kept
abbrev pub KeepsTurns : ℕ → Sample → Type 0
KeepsTurns W s = NamedBy s.crew W s.events × Kept s
