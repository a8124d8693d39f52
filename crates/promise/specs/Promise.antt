-- The promise of a run of a crew of n workers, of what was told and what is left.
use Rattle.std.specs.Prelude.{ℕ, ◌≤◌, true, List}
use Rattle.promise.specs.Books.{book_of}
use Rattle.promise.specs.Events.{Event}
use Rattle.promise.specs.Limits.{OwnStepLimit, TurnLimit}
use Rattle.promise.specs.Order.{InOrder}
use Rattle.promise.specs.WellTold.{WellTold}

pub record Promise {T : Type 0} (n : ℕ) (t : List (Event T)) (left : List T) : Type 0 where
  pub well_told : WellTold true t
  pub in_order : InOrder true (book_of t) left
  pub own_step_limit : OwnStepLimit n t
  pub turn_limit : (W : ℕ) → n ≤ W → W ≤ 1024 → TurnLimit n W t
