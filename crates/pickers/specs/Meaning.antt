-- What every picker keeps: n is its crew, w its window, and d b within how many asks it names the worker b.
use Rattle.std.specs.Prelude.{◌≡◌, ℕ, ◌+◌, ◌<◌, ◌≤◌, ◌≢◌}

-- at any time: a crew of 1 to 16, a window from n to 1024, and each worker due within the window
pub record Lawful (n w : ℕ) (d : ℕ → ℕ) : Type 0 where
  pub crew_min : 1 ≤ n
  pub crew_max : n ≤ 16
  pub window_min : n ≤ w
  pub window_max : w ≤ 1024
  pub due_min : (b : ℕ) → b < n → 1 ≤ d b
  pub due_max : (b : ℕ) → b < n → d b ≤ w

-- an ask names r, a worker of the crew, and leaves crew and window, n' and w' after it, as they are
pub record Naming (n w r n' w' : ℕ) : Type 0 where
  pub member : r < n
  pub same_crew : n' ≡ n
  pub same_window : w' ≡ w

-- an ask that names r brings every other worker at least one ask nearer, and r is due again within the window
pub record Fairness (n w : ℕ) (d : ℕ → ℕ) (r : ℕ) (d' : ℕ → ℕ) : Type 0 where
  pub others_fall : (b : ℕ) → b < n → (b ≢ r) → d' b + 1 ≤ d b
  pub others_min : (b : ℕ) → b < n → (b ≢ r) → 1 ≤ d' b
  pub named_min : 1 ≤ d' r
  pub named_max : d' r ≤ w
