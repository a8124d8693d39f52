-- Samples that are not in order, each beside the same with the one thing put right.
use Rattle.std.specs.Prelude.{ℕ, List, [], ◌∷◌, ◌++◌, Some, None}
use Rattle.vocabulary.specs.declared.kind.Kind.{Kind}
use Rattle.promise.specs.declared.reply.Reply.{Reply}
use Rattle.promise.specs.Events.{Event}
use Rattle.promise.specs.SampleForms.{posts, fetches, steps, works, points, answers_post, answers_fetch, answers_none, posted, found_nothing, two, Pair, out_of_order, ill_told_and_out_of_order}

-- worker 1 fetches after the post, in the steps 3 and 4, and gets 7
abbrev fetched : List (Event ℕ)
fetched = fetches 1 ∷ points 1 3 1 Kind.Fetch ∷ answers_fetch 1 2 3 4 7 ∷ []

-- Elements and kinds

-- two fetches get the element of one post; right: the second finds nothing
abbrev pub served_twice : Pair
served_twice = out_of_order
    (two (posted ++ fetched ++ fetches 0 ∷ works 0 ∷ points 0 6 0 Kind.Fetch ∷ answers_fetch 0 4 6 7 7 ∷ []) [])
    (two (posted ++ fetched ++ fetches 0 ∷ works 0 ∷ points 0 5 0 Kind.None ∷ answers_none 0 4 5 7 ∷ []) [])

-- a fetch gets an element that nobody posted; right: it finds nothing
abbrev pub served_from_nowhere : Pair
served_from_nowhere = out_of_order
    (two (fetches 0 ∷ works 0 ∷ points 0 2 0 Kind.Fetch ∷ answers_fetch 0 0 2 3 7 ∷ []) [])
    (two found_nothing [])

-- a fetch gets another element than was posted; right: that one
abbrev pub wrong_element : Pair
wrong_element = out_of_order
    (two (posted ++ fetches 1 ∷ points 1 3 1 Kind.Fetch ∷ answers_fetch 1 2 3 4 8 ∷ []) [])
    (two (posted ++ fetches 1 ∷ points 1 3 1 Kind.Fetch ∷ answers_fetch 1 2 3 4 7 ∷ []) [])

-- a fetch gets the later of two elements; right: the earlier
abbrev pub later_element : Pair
later_element = out_of_order
    (two (posted ++ posts 0 8 ∷ points 0 3 0 Kind.Post ∷ fetches 1 ∷ points 1 4 1 Kind.Fetch ∷ answers_fetch 1 3 4 5 8 ∷ []) (8 ∷ []))
    (two (posted ++ posts 0 8 ∷ points 0 3 0 Kind.Post ∷ fetches 1 ∷ points 1 4 1 Kind.Fetch ∷ answers_fetch 1 3 4 5 7 ∷ []) (8 ∷ []))

-- a fetch is told to find nothing where there was an element; right: it gets that element
abbrev pub none_though_there : Pair
none_though_there = out_of_order
    (two (posted ++ fetches 1 ∷ works 1 ∷ points 1 3 1 Kind.None ∷ answers_none 1 2 3 5 ∷ []) [])
    (two (posted ++ fetches 1 ∷ works 1 ∷ points 1 4 1 Kind.Fetch ∷ answers_fetch 1 2 4 5 7 ∷ []) [])

-- a post has a point of kind fetch; right: of kind post
abbrev pub wrong_kind : Pair
wrong_kind = out_of_order
    (two (posts 0 7 ∷ points 0 1 0 Kind.Fetch ∷ []) (7 ∷ []))
    (two (posts 0 7 ∷ points 0 1 0 Kind.Post ∷ []) (7 ∷ []))

-- a post is answered with an element; right: with none
abbrev pub post_with_element : Pair
post_with_element = out_of_order
    (two (posts 0 7 ∷ points 0 1 0 Kind.Post ∷ steps 0 (Reply.Answered 0 Kind.Post 0 1 2 (Some 7)) ∷ []) (7 ∷ []))
    (two (posts 0 7 ∷ points 0 1 0 Kind.Post ∷ steps 0 (Reply.Answered 0 Kind.Post 0 1 2 None) ∷ []) (7 ∷ []))

-- Points

-- an answered order has no point; right: it has one
abbrev pub answer_without_point : Pair
answer_without_point = out_of_order
    (two (fetches 0 ∷ works 0 ∷ works 0 ∷ answers_none 0 0 1 3 ∷ []) [])
    (two found_nothing [])

-- a point has the number of its order's placing; right: the order was placed before that step
abbrev pub point_at_placing : Pair
point_at_placing = out_of_order
    (two (fetches 0 ∷ works 0 ∷ fetches 1 ∷ points 0 1 1 Kind.None ∷ answers_none 1 1 1 3 ∷ []) [])
    (two (fetches 0 ∷ fetches 1 ∷ works 0 ∷ points 0 1 1 Kind.None ∷ answers_none 1 0 1 3 ∷ []) [])

-- a point has the number that its order's answer tells as its own; right: the answer tells its step's
abbrev pub point_at_answer : Pair
point_at_answer = out_of_order
    (two (posts 0 7 ∷ points 0 1 0 Kind.Post ∷ answers_post 0 0 1 1 ∷ []) (7 ∷ []))
    (two (posts 0 7 ∷ points 0 1 0 Kind.Post ∷ answers_post 0 0 1 2 ∷ []) (7 ∷ []))

-- a point has the number of the later step that answers its order; right: of the step that tells it
abbrev pub point_ahead : Pair
point_ahead = ill_told_and_out_of_order
    (two (posts 0 7 ∷ points 0 2 0 Kind.Post ∷ answers_post 0 0 2 2 ∷ []) (7 ∷ []))
    (two (posts 0 7 ∷ points 0 1 0 Kind.Post ∷ answers_post 0 0 1 2 ∷ []) (7 ∷ []))

-- two orders have one point number; right: two numbers
abbrev pub shared_number : Pair
shared_number = out_of_order
    (two (fetches 0 ∷ fetches 1 ∷ works 0 ∷ points 0 1 0 Kind.None ∷ points 0 1 1 Kind.None ∷ answers_none 0 0 1 4 ∷ answers_none 1 0 1 5 ∷ []) [])
    (two (fetches 0 ∷ fetches 1 ∷ works 0 ∷ points 0 1 0 Kind.None ∷ points 0 2 1 Kind.None ∷ answers_none 0 0 1 4 ∷ answers_none 1 0 2 5 ∷ []) [])

-- What an answer tells

-- another placing than its order's; right: that one
abbrev pub wrong_placing : Pair
wrong_placing = out_of_order
    (two (posted ++ posts 0 8 ∷ points 0 3 0 Kind.Post ∷ answers_post 0 0 3 4 ∷ []) (7 ∷ 8 ∷ []))
    (two (posted ++ posts 0 8 ∷ points 0 3 0 Kind.Post ∷ answers_post 0 2 3 4 ∷ []) (7 ∷ 8 ∷ []))

-- another point than its order's; right: that one
abbrev pub wrong_point : Pair
wrong_point = out_of_order
    (two (posts 0 7 ∷ works 0 ∷ points 0 2 0 Kind.Post ∷ answers_post 0 0 1 3 ∷ []) (7 ∷ []))
    (two (posts 0 7 ∷ works 0 ∷ points 0 2 0 Kind.Post ∷ answers_post 0 0 2 3 ∷ []) (7 ∷ []))

-- another number than its step's; right: that one
abbrev pub wrong_number : Pair
wrong_number = out_of_order
    (two (posts 0 7 ∷ points 0 1 0 Kind.Post ∷ answers_post 0 0 1 3 ∷ []) (7 ∷ []))
    (two (posts 0 7 ∷ points 0 1 0 Kind.Post ∷ answers_post 0 0 1 2 ∷ []) (7 ∷ []))

-- another kind than its point's; right: that one
abbrev pub wrong_answer_kind : Pair
wrong_answer_kind = out_of_order
    (two (posts 0 7 ∷ points 0 1 0 Kind.Post ∷ answers_none 0 0 1 2 ∷ []) (7 ∷ []))
    (two (posts 0 7 ∷ points 0 1 0 Kind.Post ∷ answers_post 0 0 1 2 ∷ []) (7 ∷ []))

-- What is left

-- a posted element is missing; right: it is left
abbrev pub left_missing : Pair
left_missing = out_of_order (two posted []) (two posted (7 ∷ []))

-- a fetched element is still left; right: it is not, though its fetch is unanswered
abbrev pub left_too_much : Pair
left_too_much = out_of_order
    (two (posted ++ fetches 1 ∷ points 1 3 1 Kind.Fetch ∷ []) (7 ∷ []))
    (two (posted ++ fetches 1 ∷ points 1 3 1 Kind.Fetch ∷ []) [])

-- an element is left whose post has no point; right: it is not
abbrev pub left_too_early : Pair
left_too_early = out_of_order
    (two (posts 0 7 ∷ works 0 ∷ []) (7 ∷ []))
    (two (posts 0 7 ∷ works 0 ∷ []) [])

-- the elements left stand in another sequence; right: in that of their points
abbrev pub left_turned : Pair
left_turned = out_of_order
    (two (posted ++ posts 1 8 ∷ points 1 3 1 Kind.Post ∷ []) (8 ∷ 7 ∷ []))
    (two (posted ++ posts 1 8 ∷ points 1 3 1 Kind.Post ∷ []) (7 ∷ 8 ∷ []))

abbrev pub out_of_order_pairs : List Pair
out_of_order_pairs =
    served_twice ∷ served_from_nowhere ∷ wrong_element ∷ later_element ∷ none_though_there ∷ wrong_kind ∷ post_with_element
    ∷ answer_without_point ∷ point_at_placing ∷ point_at_answer ∷ point_ahead ∷ shared_number
    ∷ wrong_placing ∷ wrong_point ∷ wrong_number ∷ wrong_answer_kind
    ∷ left_missing ∷ left_too_much ∷ left_too_early ∷ left_turned ∷ []
