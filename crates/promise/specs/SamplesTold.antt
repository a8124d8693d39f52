-- Samples that are not well told, each beside the same with the one thing put right.
use Rattle.std.specs.Prelude.{ℕ, List, [], ◌∷◌, ◌++◌, Some, None}
use Rattle.vocabulary.specs.declared.kind.Kind.{Kind}
use Rattle.vocabulary.specs.declared.refusal.Refusal.{Refusal}
use Rattle.promise.specs.declared.call.Call.{Call}
use Rattle.promise.specs.declared.reply.Reply.{Reply}
use Rattle.promise.specs.Events.{Event}
use Rattle.promise.specs.SampleForms.{event, posts, fetches, refuses, steps, turns, works, idles, points, answers_post, answers_fetch, answers_none, posted, found_nothing, two, Pair, ill_told, ill_told_and_out_of_order}

-- a second answer for one order; right: an idle step
abbrev pub second_answer : Pair
second_answer = ill_told
    (two (posted ++ answers_post 0 0 1 3 ∷ []) (7 ∷ []))
    (two (posted ++ idles 0 ∷ []) (7 ∷ []))

-- an answer without an order; right: an idle step
abbrev pub answer_without_order : Pair
answer_without_order = ill_told
    (two (answers_none 0 0 0 1 ∷ []) [])
    (two (idles 0 ∷ []) [])

-- the step that answers is another worker's; right: it is the worker's own
abbrev pub answer_by_another : Pair
answer_by_another = ill_told
    (two (posts 0 7 ∷ fetches 1 ∷ points 0 1 0 Kind.Post ∷ steps 1 (Reply.Answered 0 Kind.Post 0 1 2 None) ∷ []) (7 ∷ []))
    (two (posts 0 7 ∷ fetches 1 ∷ points 0 1 0 Kind.Post ∷ steps 0 (Reply.Answered 0 Kind.Post 0 1 2 None) ∷ []) (7 ∷ []))

-- a post's point has an earlier number than the step that tells it; right: that step's own
abbrev pub earlier_post : Pair
earlier_post = ill_told
    (two (posts 0 7 ∷ works 0 ∷ points 0 1 0 Kind.Post ∷ answers_post 0 0 1 3 ∷ []) (7 ∷ []))
    (two (posts 0 7 ∷ works 0 ∷ points 0 2 0 Kind.Post ∷ answers_post 0 0 2 3 ∷ []) (7 ∷ []))

-- so has the point of a fetch that gets an element
abbrev pub earlier_fetch : Pair
earlier_fetch = ill_told
    (two (posted ++ fetches 1 ∷ works 1 ∷ points 1 3 1 Kind.Fetch ∷ answers_fetch 1 2 3 5 7 ∷ []) [])
    (two (posted ++ fetches 1 ∷ works 1 ∷ points 1 4 1 Kind.Fetch ∷ answers_fetch 1 2 4 5 7 ∷ []) [])

-- a worker with an order makes an idle step; right: a counted one
abbrev pub idle_with_order : Pair
idle_with_order = ill_told
    (two (fetches 0 ∷ idles 0 ∷ []) [])
    (two (fetches 0 ∷ works 0 ∷ []) [])

-- a worker without an order makes a counted step; right: an idle one
abbrev pub counted_without_order : Pair
counted_without_order = ill_told
    (two (works 0 ∷ []) [])
    (two (idles 0 ∷ []) [])

-- a worker has two unanswered orders; right: the second is refused
abbrev pub two_orders : Pair
two_orders = ill_told
    (two (posts 0 7 ∷ posts 0 8 ∷ []) [])
    (two (posts 0 7 ∷ refuses (Call.Post 0 8) Refusal.UnansweredOrder ∷ []) [])

-- a point for an order that has one already, so that its post counts twice; right: the step tells none
abbrev pub second_point : Pair
second_point = ill_told_and_out_of_order
    (two (posts 0 7 ∷ points 0 1 0 Kind.Post ∷ points 0 2 0 Kind.Post ∷ []) (7 ∷ 7 ∷ []))
    (two (posts 0 7 ∷ points 0 1 0 Kind.Post ∷ works 0 ∷ []) (7 ∷ []))

-- a point of a worker without an order; right: the step tells none
abbrev pub point_without_order : Pair
point_without_order = ill_told
    (two (fetches 0 ∷ points 0 1 1 Kind.Post ∷ []) [])
    (two (fetches 0 ∷ works 0 ∷ []) [])

-- the number of a fetch that finds nothing is another worker's step; right: a step of the worker that tells it
abbrev pub others_number : Pair
others_number = ill_told
    (two (fetches 0 ∷ fetches 1 ∷ works 0 ∷ points 1 1 1 Kind.None ∷ answers_none 1 0 1 3 ∷ []) [])
    (two (fetches 0 ∷ fetches 1 ∷ works 1 ∷ points 1 1 1 Kind.None ∷ answers_none 1 0 1 3 ∷ []) [])

-- worker 0 makes the steps 1 to 4 for its first fetch and the step 5 for its second, while the fetch of worker 1 waits
abbrev two_fetches : List (Event ℕ)
two_fetches = fetches 1 ∷ fetches 0 ∷ works 0 ∷ works 0 ∷ points 0 1 0 Kind.None ∷ answers_none 0 0 1 4 ∷ fetches 0 ∷ works 0 ∷ []

-- it is the last step that the teller made before its own order was placed; right: a step made since
abbrev pub older_number : Pair
older_number = ill_told
    (two (two_fetches ++ points 0 4 1 Kind.None ∷ answers_none 1 0 4 7 ∷ []) [])
    (two (two_fetches ++ points 0 5 1 Kind.None ∷ answers_none 1 0 5 7 ∷ []) [])

-- it is the very step that tells it; right: an earlier one
abbrev pub present_number : Pair
present_number = ill_told
    (two (fetches 0 ∷ works 0 ∷ points 0 2 0 Kind.None ∷ answers_none 0 0 2 3 ∷ []) [])
    (two found_nothing [])

-- a reply that does not fit its call; right: one that does
abbrev misfit : Event ℕ → Event ℕ → Pair
misfit e r = ill_told (two (e ∷ []) []) (two (r ∷ []) [])

abbrev pub misfits : List Pair
misfits =
    -- a post or a fetch is told as a step, or somebody makes a step at it
    misfit (event (Call.Post 0 7) None Reply.Worked) (posts 0 7)
    ∷ misfit (event (Call.Post 0 7) None (Reply.Point 1 0 Kind.Post)) (posts 0 7)
    ∷ misfit (event (Call.Fetch 0) None Reply.Idle) (fetches 0)
    ∷ misfit (event (Call.Fetch 0) None (Reply.Answered 0 Kind.None 0 0 1 None)) (fetches 0)
    ∷ misfit (event (Call.Post 0 7) (Some 0) Reply.Accepted) (posts 0 7)
    -- a step or a turn is told as an order, or is refused though somebody made it
    ∷ misfit (steps 0 Reply.Accepted) (idles 0)
    ∷ misfit (turns 0 Reply.Accepted) (turns 0 Reply.Idle)
    ∷ misfit (steps 2 (Reply.Refused Refusal.UnknownWorker)) (refuses (Call.Step 2) Refusal.UnknownWorker)
    ∷ misfit (turns 0 (Reply.Refused Refusal.OtherCrew)) (refuses Call.Turn Refusal.OtherCrew)
    -- another worker makes the step
    ∷ misfit (event (Call.Step 0) (Some 1) Reply.Idle) (idles 0)
    -- nobody makes it, and yet it is accepted
    ∷ misfit (event (Call.Step 0) None Reply.Idle) (idles 0)
    ∷ misfit (event Call.Turn None Reply.Idle) (turns 0 Reply.Idle)
    ∷ misfit (event Call.Turn None Reply.Accepted) (turns 0 Reply.Idle)
    ∷ misfit (event Call.Turn None Reply.Worked) (turns 0 Reply.Idle)
    ∷ misfit (event Call.Turn None (Reply.Point 1 0 Kind.Post)) (turns 0 Reply.Idle)
    ∷ misfit (event Call.Turn None (Reply.Answered 0 Kind.None 0 0 1 None)) (turns 0 Reply.Idle)
    ∷ []

abbrev pub ill_told_pairs : List Pair
ill_told_pairs =
    second_answer ∷ answer_without_order ∷ answer_by_another ∷ earlier_post ∷ earlier_fetch ∷ idle_with_order ∷ counted_without_order ∷ two_orders
    ∷ second_point ∷ point_without_order ∷ others_number ∷ older_number ∷ present_number ∷ misfits
