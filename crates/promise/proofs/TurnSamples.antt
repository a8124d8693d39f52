-- The samples of turns: due numbers for them, and that they are too many or not.
use Rattle.std.proofs.Common.{◌≡◌, ℕ, zero, suc, ◌*◌, ◌<◌, ◌≤◌, false, cond, eqb, List, [], ◌∷◌, refl, arith}
use Rattle.std.proofs.lemmas.Bool.Decides.{nat_tests, not_from_Decides}
use Rattle.vocabulary.specs.Crews.{allowance}
use Rattle.promise.specs.declared.reply.Reply.{Reply}
use Rattle.promise.specs.Checks.{within_limit_b}
use Rattle.promise.specs.Events.{Event}
use Rattle.promise.specs.Limits.{turn_in, DueNumbers, TurnOf, Unchanged, NamedFrom, NamedBy, TurnLimit}
use Rattle.promise.specs.Maps.{put}
use Rattle.promise.specs.SampleForms.{Sample, turns, times, BreaksTurns, BreaksLimits, KeepsTurns}
use Rattle.promise.specs.Samples.{turns_of_two, one_turn_too_many, turns_of_one, twice_running}
use Rattle.promise.proofs.CheckLaws.{decides-within}
use Rattle.promise.proofs.SampleLaws.{told_is, order_is, steps-are, kept}

-- of two workers, w is due now, and the other with the turn after
abbrev due : ℕ → ℕ → ℕ
due w b = cond (eqb b w) 1 2

dues : (w : ℕ) → DueNumbers 2 2 (due w)
dues w = record { low = λ b l. grind (arith, nat_tests); high = λ b l. grind (arith, nat_tests) }

turn-of-1 : TurnOf 2 (due 1) 1 (due 0)
turn-of-1 = record { member = omega arith; nearer = λ b l n. grind (arith, nat_tests) }

turn-of-0 : TurnOf 2 (due 0) 0 (due 1)
turn-of-0 = record { member = omega arith; nearer = λ b l n. grind (arith, nat_tests) }

-- between turns no due number changes
stays : (d : ℕ → ℕ) → Unchanged 2 d d
stays d b l = refl

named-times : (k : ℕ) (t : List (Event ℕ)) → NamedFrom 2 2 (due 1) t → NamedFrom 2 2 (due 1) (times k (turns 1 Reply.Idle ∷ turns 0 Reply.Worked ∷ []) t)
named-times zero t h = h
named-times (suc k) t h = (dues 1, (due 0, turn-of-1, (dues 0, (due 1, turn-of-0, named-times k t h))))

named-two : (t : List (Event ℕ)) → NamedFrom 2 2 (due 1) t → NamedBy 2 2 (turns_of_two t).events
named-two t h =
    let d = dues 1 in
    (due 1, (d, (due 1, stays (due 1), (d, (due 1, stays (due 1), (d, (due 1, stays (due 1), (d, (due 1, stays (due 1), named-times 600 t h)))))))))

-- the turns of a sample pass the limit
too_many : (W : ℕ) (s : Sample) → within_limit_b (λ w. turn_in) (allowance s.crew * W) s.events ≡ false → NamedBy s.crew W s.events → TurnLimit s.crew W s.events → ⊥
too_many W s e named limit = not_from_Decides _ (decides-within (λ w. turn_in) (allowance s.crew * W) s.events) e (limit named)

pub turns_of_two-breaks : BreaksTurns 2 one_turn_too_many × KeepsTurns 2 (turns_of_two [])
unfolding put
turns_of_two-breaks =
    let s = one_turn_too_many in
    let named : NamedBy 2 2 s.events = named-two (turns 1 Reply.Idle ∷ []) (dues 1, (due 0, turn-of-1, dues 0)) in
    (((told_is s).0 refl, (order_is s).0 refl, (steps-are s).0 refl, named, too_many 2 s refl named), (named-two [] (dues 1), kept (turns_of_two []) refl))

-- a worker alone is always due
due-alone : DueNumbers 1 1 (λ b. 1)
due-alone = record { low = λ b l. omega arith; high = λ b l. omega arith }

turn_alone : TurnOf 1 (λ b. 1) 0 (λ b. 1)
turn_alone = record { member = omega arith; nearer = λ b l n. grind arith }

named-alone : (k : ℕ) → NamedFrom 1 1 (λ b. 1) (times k (turns 0 Reply.Worked ∷ []) [])
named-alone zero = due-alone
named-alone (suc k) = (due-alone, (λ b. 1, turn_alone, named-alone k))

named-one : (k : ℕ) → NamedBy 1 1 (turns_of_one k).events
named-one k = (λ b. 1, (due-alone, (λ b. 1, λ b l. refl, named-alone k)))

pub turns_of_one-breaks : BreaksLimits 1 (turns_of_one 201) × KeepsTurns 1 (turns_of_one 200)
unfolding put
turns_of_one-breaks =
    let s = turns_of_one 201 in
    (((told_is s).0 refl, (order_is s).0 refl, not_from_Decides _ (steps-are s) refl, named-one 201, too_many 1 s refl (named-one 201)), (named-one 200, kept (turns_of_one 200) refl))

-- worker 0 is due within k turns, worker 1 with the next
abbrev waits : ℕ → ℕ → ℕ
waits k b = cond (eqb b 0) k 1

waiting : (k : ℕ) → 1 ≤ k → k ≤ 3 → DueNumbers 2 3 (waits k)
waiting k l h = record { low = λ b _. grind (arith, nat_tests); high = λ b _. grind (arith, nat_tests) }

nearer : (k : ℕ) → TurnOf 2 (waits (suc k)) 1 (waits k)
nearer k = record { member = omega arith; nearer = λ b l n. grind (arith, nat_tests) }

-- with the window 2, the due number of worker 0 would fall below 1
pub window : (NamedBy 2 2 twice_running → ⊥) × NamedBy 2 3 twice_running
window =
    let d = waiting 2 (omega arith) (omega arith) in
    let three = waiting 3 (omega arith) (omega arith) in
    let one = waiting 1 (omega arith) (omega arith) in
    let v = waits 2 in
    let u = stays v in
    (few, (waits 3, (three, (v, nearer 2, (d, (v, u, (d, (v, u, (d, (v, u, (d, (v, u, (d, (waits 1, nearer 1, one))))))))))))))
  where
    few : NamedBy 2 2 twice_running → ⊥
    few (d, (first, (d1, turn, (_, (d2, s2, (_, (d3, s3, (_, (d4, s4, (_, (d5, s5, (_, (d6, again, last))))))))))))) =
        let l : 0 < 2 = omega arith in
        let other : ◌≡◌ {A = ℕ} 0 1 → ⊥ = λ z. omega arith in
        omega (arith, first.high 0 l, turn.nearer 0 l other, s2 0 l, s3 0 l, s4 0 l, s5 0 l, again.nearer 0 l other, last.low 0 l)

pub crew : NamedBy 1 1 (turns 1 Reply.Idle ∷ []) → ⊥
crew (d, (_, (e, turn, _))) = omega (arith, turn.member)
