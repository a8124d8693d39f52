-- Worked runs: small runs computed from the definitions, each with what it shows.
use Rattle.std.specs.Prelude.{◌≡◌, ℕ, zero, suc, List, [], ◌∷◌, length, ℤ, pos, negsuc, Some, None, Ok, Err}
use Rattle.vocabulary.specs.declared.bundle.Bundle.{Bundle}
use Rattle.vocabulary.specs.declared.kind.Kind.{Kind}
use Rattle.vocabulary.specs.declared.refusal.Refusal.{Refusal}
use Rattle.vocabulary.specs.Crews.{crew_of, allowance}
use Rattle.pickers.specs.Frames.{judged}
use Rattle.pickers.specs.Turns.{following}
use Rattle.promise.specs.declared.call.Call.{Call}
use Rattle.promise.specs.declared.reply.Reply.{Reply}
use Rattle.machine.specs.Calls.{Run, Played, opened_run, played, left}
use Rattle.machine.specs.Memory.{stated_phase}

-- the same thing so many times, before the rest
abbrev pub times : {X : Type 0} → ℕ → X → List X → List X
times zero x rest = rest
times (suc k) x rest = x ∷ times k x rest

-- calls played one after another under rounds of the crew n, of which the worker v comes next; the replies and the run
pub record Replies (T : Type 0) : Type 0 where
  pub run : Run T
  pub replies : List (Reply T)

abbrev pub turned : {T : Type 0} → ℕ → ℕ → Call T → ℕ
turned n v (Call.Post w x) = v
turned n v (Call.Fetch w) = v
turned n v (Call.Step w) = v
turned n v Call.Turn = following n v

abbrev pub play_rounds : {T : Type 0} → ℕ → ℕ → List (Call T) → Run T → Replies T
play_rounds n v [] r = record { run = r; replies = [] }
play_rounds n v (c ∷ cs) r =
    let p : Played _ = played r n v c in
    let rest : Replies _ = play_rounds n (turned n v c) cs p.run in
    record { run = rest.run; replies = p.event.reply ∷ rest.replies }

abbrev pub replies_of : {T : Type 0} → ℕ → ℕ → List (Call T) → List (Reply T)
replies_of n nodes cs = (play_rounds n 0 cs (opened_run n nodes)).replies

abbrev pub left_after : {T : Type 0} → ℕ → ℕ → List (Call T) → List T
left_after n nodes cs = left (play_rounds n 0 cs (opened_run n nodes)).run

-- the replies that tell a point, an answer or a refusal
abbrev pub told : {T : Type 0} → List (Reply T) → List (Reply T)
told [] = []
told (Reply.Refused n ∷ rs) = Reply.Refused n ∷ told rs
told (Reply.Accepted ∷ rs) = told rs
told (Reply.Idle ∷ rs) = told rs
told (Reply.Worked ∷ rs) = told rs
told (Reply.Point p w k ∷ rs) = Reply.Point p w k ∷ told rs
told (Reply.Answered w k l p s x ∷ rs) = Reply.Answered w k l p s x ∷ told rs

abbrev pub bundle : Bundle
bundle = record { field = 7; wavelength = 2; rays = 400 }

-- the phase in the entry of the worker w of a crew of one, as it is stated
abbrev pub phase_after : ℕ → List (Call Bundle) → ℤ
phase_after w cs = stated_phase ((play_rounds 1 0 cs (opened_run 1 255)).run.state.memory.entry w).descriptor.phase

-- one bundle is posted and fetched by a crew of one, by turns of rounds
abbrev pub post_then_fetch : List (Call Bundle)
post_then_fetch = Call.Post 0 bundle ∷ times 22 Call.Turn (Call.Fetch 0 ∷ times 31 Call.Turn [])

pub record WorkedRuns : Type 0 where
  -- one post and one fetch alone: points 12 and 38, answers at 22 and 53
  pub alone : replies_of 1 255 post_then_fetch ≡ Reply.Accepted ∷ times 11 Reply.Worked (Reply.Point 12 0 Kind.Post ∷ times 9 Reply.Worked (Reply.Answered 0 Kind.Post 0 12 22 None
      ∷ Reply.Accepted ∷ times 15 Reply.Worked (Reply.Point 38 0 Kind.Fetch ∷ times 14 Reply.Worked (Reply.Answered 0 Kind.Fetch 22 38 53 (Some bundle) ∷ []))))
  -- closed after step 11 of that run nothing is left, after step 12 the bundle is, after step 38 nothing again
  pub left_before : left_after 1 255 (Call.Post 0 bundle ∷ times 11 Call.Turn []) ≡ []
  pub left_posted : left_after 1 255 (Call.Post 0 bundle ∷ times 12 Call.Turn []) ≡ bundle ∷ []
  pub left_fetched : left_after 1 255 (Call.Post 0 bundle ∷ times 22 Call.Turn (Call.Fetch 0 ∷ times 16 Call.Turn [])) ≡ []
  -- a fetch alone finds nothing: its point is the step that saw that, not its last exchange
  pub empty : replies_of {T = Bundle} 1 255 (Call.Fetch 0 ∷ times 20 Call.Turn []) ≡ Reply.Accepted ∷ times 14 Reply.Worked (Reply.Point 8 0 Kind.None ∷ times 4 Reply.Worked (Reply.Answered 0 Kind.None 0 8 20 None ∷ []))
  -- a post that was placed and never stepped is not seen: a fetch beside it finds nothing
  pub unstepped : replies_of 2 255 (Call.Post 0 bundle ∷ Call.Fetch 1 ∷ times 22 (Call.Step 1) []) ≡ Reply.Accepted ∷ Reply.Accepted ∷ times 16 Reply.Worked (Reply.Point 10 1 Kind.None ∷ times 4 Reply.Worked (Reply.Answered 1 Kind.None 0 10 22 None ∷ []))
  -- a post that was announced and then left alone is carried out by the fetch beside it, which gets its element; four
  -- more steps of the poster answer it
  pub helped : told (replies_of 2 255 (Call.Post 0 bundle ∷ times 3 (Call.Step 0) (Call.Fetch 1 ∷ times 50 (Call.Step 1) (times 4 (Call.Step 0) []))))
      ≡ Reply.Point 16 0 Kind.Post ∷ Reply.Point 38 1 Kind.Fetch ∷ Reply.Answered 1 Kind.Fetch 3 38 53 (Some bundle) ∷ Reply.Answered 0 Kind.Post 0 16 57 None ∷ []
  -- every entry begins with phase -1, and the first order announces phase 0
  pub phases : (phase_after 0 [] ≡ negsuc 0) × (phase_after 0 (Call.Post 0 bundle ∷ times 2 Call.Turn []) ≡ pos 0)
  -- the frame 0 1 2 1 of a crew of three is lawful and has window 4
  pub frame : (judged 3 (0 ∷ 1 ∷ 2 ∷ 1 ∷ []) ≡ Ok tt) × (length {A = ℕ} (0 ∷ 1 ∷ 2 ∷ 1 ∷ []) ≡ 4)
  -- crew and allowance
  pub crews : (crew_of 16 ≡ Ok 16) × (crew_of 0 ≡ Err Refusal.CrewSize) × (crew_of 17 ≡ Err Refusal.CrewSize)
  pub allowances : (allowance 1 ≡ 200) × (allowance 16 ≡ 27200)
  -- on an empty shelf the first post is refused
  pub no_node : replies_of 1 0 (Call.Post 0 bundle ∷ []) ≡ Reply.Refused Refusal.NoFreeNode ∷ []
