-- The own-step limit and the turn limit: how long an order stays unanswered.
use Rattle.std.specs.Prelude.{◌≡◌, ℕ, ◌+◌, ◌*◌, ◌<◌, ◌≤◌, Bool, true, false, cond, List, [], ◌∷◌, Some, None, Option, ◌==◌, ◌≢◌}
use Rattle.vocabulary.specs.Crews.{allowance}
use Rattle.promise.specs.Events.{Event, Answer, Told, told}

-- whether an event answers the worker's order
abbrev pub answers_to : {T : Type 0} → ℕ → Option (Answer T) → Bool
answers_to w None = false
answers_to w (Some a) = a.worker == w

abbrev pub answers_in : {T : Type 0} → ℕ → Told T → Bool
answers_in w (Told.refused n) = false
answers_in w (Told.placed v a) = false
answers_in w (Told.idled v turn) = false
answers_in w (Told.stepped v turn p a) = answers_to w a
answers_in w Told.misfit = false

-- 1 for an accepted step of the worker, idle or not
abbrev pub step_in : {T : Type 0} → ℕ → Told T → ℕ
step_in w (Told.refused n) = 0
step_in w (Told.placed v a) = 0
step_in w (Told.idled v turn) = cond (v == w) 1 0
step_in w (Told.stepped v turn p a) = cond (v == w) 1 0
step_in w Told.misfit = 0

-- 1 for an accepted turn, idle or not
abbrev pub turn_in : {T : Type 0} → Told T → ℕ
turn_in (Told.refused n) = 0
turn_in (Told.placed v a) = 0
turn_in (Told.idled v turn) = cond turn 1 0
turn_in (Told.stepped v turn p a) = cond turn 1 0
turn_in Told.misfit = 0

-- how much is counted up to and with the event that answers the worker, or to the end
abbrev pub until_answer : {T : Type 0} → (Told T → ℕ) → ℕ → List (Event T) → ℕ
until_answer count w [] = 0
until_answer count w (e ∷ t) = cond (answers_in w (told e)) (count (told e)) (count (told e) + until_answer count w t)

-- from each placing on, at most so much is counted until the order is answered
abbrev pub after_placed : {T : Type 0} → (ℕ → Told T → ℕ) → ℕ → Told T → List (Event T) → Type 0
after_placed count limit (Told.refused n) t = Unit {0}
after_placed count limit (Told.placed w a) t = until_answer (count w) w t ≤ limit
after_placed count limit (Told.idled v turn) t = Unit {0}
after_placed count limit (Told.stepped v turn p a) t = Unit {0}
after_placed count limit Told.misfit t = Unit {0}

abbrev pub WithinLimit : {T : Type 0} → (ℕ → Told T → ℕ) → ℕ → List (Event T) → Type 0
WithinLimit count limit [] = Unit {0}
WithinLimit count limit (e ∷ t) = after_placed count limit (told e) t × WithinLimit count limit t

-- while an order is unanswered, its worker makes at most 100·n·(n+1) accepted steps
abbrev pub OwnStepLimit : {T : Type 0} → ℕ → List (Event T) → Type 0
OwnStepLimit n t = WithinLimit step_in (allowance n) t

-- the turns of a list of events are named by a picker of a crew of n and window W: each worker has a due number from 1
-- to W, at first any; at an accepted turn every other worker's falls by at least one, and at any other event none changes
pub record DueNumbers (n W : ℕ) (d : ℕ → ℕ) : Type 0 where
  pub low : (b : ℕ) → b < n → 1 ≤ d b
  pub high : (b : ℕ) → b < n → d b ≤ W

pub record TurnOf (n : ℕ) (d : ℕ → ℕ) (r : ℕ) (d' : ℕ → ℕ) : Type 0 where
  pub member : r < n
  pub nearer : (b : ℕ) → b < n → (b ≢ r) → d' b + 1 ≤ d b

abbrev pub Unchanged : ℕ → (ℕ → ℕ) → (ℕ → ℕ) → Type 0
Unchanged n d d' = (b : ℕ) → b < n → d' b ≡ d b

abbrev pub turn_by : Bool → ℕ → (ℕ → ℕ) → ℕ → (ℕ → ℕ) → Type 0
turn_by true n d r d' = TurnOf n d r d'
turn_by false n d r d' = Unchanged n d d'

abbrev pub DueStep : {T : Type 0} → ℕ → (ℕ → ℕ) → Told T → (ℕ → ℕ) → Type 0
DueStep n d (Told.refused e) d' = Unchanged n d d'
DueStep n d (Told.placed w a) d' = Unchanged n d d'
DueStep n d (Told.idled w turn) d' = turn_by turn n d w d'
DueStep n d (Told.stepped w turn p a) d' = turn_by turn n d w d'
DueStep n d Told.misfit d' = Unchanged n d d'

abbrev pub NamedFrom : {T : Type 0} → ℕ → ℕ → (ℕ → ℕ) → List (Event T) → Type 0
NamedFrom n W d [] = DueNumbers n W d
NamedFrom n W d (e ∷ t) = DueNumbers n W d × ((d' : ℕ → ℕ) × DueStep n d (told e) d' × NamedFrom n W d' t)

abbrev pub NamedBy : {T : Type 0} → ℕ → ℕ → List (Event T) → Type 0
NamedBy n W t = (d : ℕ → ℕ) × NamedFrom n W d t

-- while an order is unanswered, at most 100·n·(n+1)·W accepted turns are made, if a picker of window W names them
abbrev pub TurnLimit : {T : Type 0} → ℕ → ℕ → List (Event T) → Type 0
TurnLimit n W t = NamedBy n W t → WithinLimit (λ w. turn_in) (allowance n * W) t
