-- Samples: lawful transcripts, and wrong ones, each beside the same with the one thing put right. The promise tells them
-- apart: what is lawful keeps it, and what is wrong breaks the part that it should and no other.
use Rattle.std.specs.Prelude.{ℕ, List, [], ◌∷◌, ◌++◌, None}
use Rattle.std.specs.List.{AllByRecursion}
use Rattle.vocabulary.specs.declared.kind.Kind.{Kind}
use Rattle.vocabulary.specs.declared.refusal.Refusal.{Refusal}
use Rattle.promise.specs.declared.call.Call.{Call}
use Rattle.promise.specs.declared.reply.Reply.{Reply}
use Rattle.promise.specs.Events.{Event}
use Rattle.promise.specs.Limits.{NamedBy}
use Rattle.promise.specs.SampleForms.{posts, fetches, refuses, turns, works, idles, points, answers_post, answers_fetch, answers_none, times, Sample, posted, found_nothing, two, Kept, Pair, too_many_steps, ToldApart, BreaksTurns, BreaksLimits, KeepsTurns}
use Rattle.promise.specs.SamplesOrder.{out_of_order_pairs}
use Rattle.promise.specs.SamplesTold.{ill_told_pairs}

-- Lawful

-- nothing was called
abbrev pub nothing : Sample
nothing = two [] []

-- a post, and a fetch that gets its element
abbrev pub post_and_fetch : Sample
post_and_fetch = two (posted ++ fetches 1 ∷ points 1 3 1 Kind.Fetch ∷ answers_fetch 1 2 3 4 7 ∷ []) []

-- the elements of two posts are fetched in the sequence of their points, not of their placings or answers
abbrev pub points_decide : Sample
points_decide =
    two (posts 0 7 ∷ posts 1 8 ∷ points 1 1 1 Kind.Post ∷ points 0 2 0 Kind.Post ∷ answers_post 0 0 2 3 ∷ answers_post 1 0 1 4
    ∷ fetches 0 ∷ points 0 5 0 Kind.Fetch ∷ answers_fetch 0 4 5 6 8
    ∷ fetches 1 ∷ points 1 7 1 Kind.Fetch ∷ answers_fetch 1 6 7 8 7 ∷ []) []

-- a fetch finds nothing: its point is an earlier step
abbrev pub finds_nothing : Sample
finds_nothing = two found_nothing []

-- before it is told that a fetch finds nothing, a post gets a point with a higher number; calls are refused in between
abbrev pub overtaken : Sample
overtaken =
    two (refuses (Call.Step 2) Refusal.UnknownWorker ∷ fetches 0 ∷ works 0 ∷ refuses (Call.Post 0 9) Refusal.UnansweredOrder
    ∷ posts 1 7 ∷ points 1 2 1 Kind.Post ∷ refuses Call.Turn Refusal.OtherCrew
    ∷ points 0 1 0 Kind.None ∷ answers_post 1 1 2 4 ∷ answers_none 0 0 1 5 ∷ []) (7 ∷ [])

-- a step tells the point of another worker's order, also one that is not answered
abbrev pub helped : Sample
helped = two (fetches 0 ∷ posts 1 7 ∷ points 0 1 1 Kind.Post ∷ answers_post 1 0 1 2 ∷ posts 1 8 ∷ points 1 3 0 Kind.Fetch ∷ []) []

-- steps by turns, and idle steps
abbrev pub by_turns : Sample
by_turns =
    two (turns 1 Reply.Idle ∷ posts 0 7 ∷ turns 0 (Reply.Point 1 0 Kind.Post) ∷ turns 1 Reply.Idle ∷ idles 1
    ∷ turns 0 (Reply.Answered 0 Kind.Post 0 1 2 None) ∷ idles 0 ∷ []) (7 ∷ [])

abbrev pub lawful_samples : List Sample
lawful_samples = nothing ∷ post_and_fetch ∷ points_decide ∷ finds_nothing ∷ overtaken ∷ helped ∷ by_turns ∷ []

-- Limits

-- a sample of a crew of one
abbrev one : List (Event ℕ) → List ℕ → Sample
one t left = record { crew = 1; events = t; left = left }

-- alone, a worker makes 201 steps while its order is unanswered; right: 200
abbrev pub one_step_too_many : Pair
one_step_too_many = too_many_steps
    (one (posts 0 7 ∷ times 201 (works 0 ∷ []) []) [])
    (one (posts 0 7 ∷ times 200 (works 0 ∷ []) []) [])

-- its first order is answered soon, and the 201st step of its second answers that one; right: the 200th
abbrev pub one_step_too_late : Pair
one_step_too_late = too_many_steps
    (one (found_nothing ++ posts 0 7 ∷ times 199 (works 0 ∷ []) (points 0 203 0 Kind.Post ∷ answers_post 0 3 203 204 ∷ [])) (7 ∷ []))
    (one (found_nothing ++ posts 0 7 ∷ times 198 (works 0 ∷ []) (points 0 202 0 Kind.Post ∷ answers_post 0 3 202 203 ∷ [])) (7 ∷ []))

abbrev pub too_many_steps_pairs : List Pair
too_many_steps_pairs = one_step_too_many ∷ one_step_too_late ∷ []

-- while the post of worker 0 is unanswered, and that of worker 1 answered, they get 1200 turns, one after the other: 600
-- counted ones of worker 0 and 600 idle ones; then come the events t
abbrev pub turns_of_two : List (Event ℕ) → Sample
turns_of_two t =
    two (posts 0 7 ∷ posts 1 8 ∷ points 1 1 1 Kind.Post ∷ answers_post 1 0 1 2
    ∷ times 600 (turns 1 Reply.Idle ∷ turns 0 Reply.Worked ∷ []) t) (8 ∷ [])

-- one turn more, and it is idle
abbrev pub one_turn_too_many : Sample
one_turn_too_many = turns_of_two (turns 1 Reply.Idle ∷ [])

-- alone, a worker gets so many turns while its order is unanswered
abbrev pub turns_of_one : ℕ → Sample
turns_of_one k = one (posts 0 7 ∷ times k (turns 0 Reply.Worked ∷ []) []) []

-- worker 1 gets two turns and worker 0 none; worker 0 makes steps in between, and a turn is refused
abbrev pub twice_running : List (Event ℕ)
twice_running = turns 1 Reply.Idle ∷ idles 0 ∷ posts 0 7 ∷ works 0 ∷ refuses Call.Turn Refusal.OtherCrew ∷ turns 1 Reply.Idle ∷ []

-- The statement

pub record StatementIsSane : Type 0 where
  -- lawful samples keep the promise
  pub lawful : AllByRecursion Kept lawful_samples
  -- wrong ones break the part that they should, and no other; put right, they keep the promise
  pub told : AllByRecursion ToldApart ill_told_pairs
  pub ordered : AllByRecursion ToldApart out_of_order_pairs
  pub limited : AllByRecursion ToldApart too_many_steps_pairs
  -- 1201 turns are too many for a crew of two and the window 2, and 1200 are not
  pub turns_of_two : BreaksTurns 2 one_turn_too_many × KeepsTurns 2 (turns_of_two [])
  -- 201 turns are too many for a crew of one and the window 1, as steps and as turns, and 200 are not
  pub turns_of_one : BreaksLimits 1 (turns_of_one 201) × KeepsTurns 1 (turns_of_one 200)
  -- a picker of the window 3 may name one of two workers twice running, none of the window 2 may
  pub window : (NamedBy 2 2 twice_running → ⊥) × NamedBy 2 3 twice_running
  -- no picker names a worker that is not of its crew
  pub crew : NamedBy 1 1 (turns 1 Reply.Idle ∷ []) → ⊥
