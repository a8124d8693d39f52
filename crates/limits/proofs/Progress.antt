-- Ghost data for the limits, and the invariant of what is shared. While an order is pending, each other worker may have at
-- most two points more: one for the order that it has, and one for the next, which it places later and which cannot be
-- answered before the pending order is done. Each such point links a node or gives head's node a taker, and so moves the
-- clock of the pending order: the positions of head, tail and the last node, and the furthest that the order's entry
-- named. So that clock stays below a limit that was fixed when the order was announced.
use Rattle.std.proofs.Common.{◌≡◌, ℕ, ◌+◌, ◌-◌, ◌*◌, ◌<◌, ◌≤◌, Bool, true, false, cond, not, eqb, ◌≢◌, Some, None, Option}
use Rattle.promise.specs.AbstractLine.{Given, Open}
use Rattle.promise.specs.Maps.{put}
use Rattle.machine.specs.declared.entry.OrderKind.{OrderKind}
use Rattle.machine.specs.Memory.{Memory}
use Rattle.linearization.proofs.Ghosts.{Ghost, is_pending, kind_of, node_of}
use Rattle.limits.proofs.Totals.{total}

pub record Progress : Type 0 where
  -- of the workers k and j: whether j's order was placed after k announced the order that it has
  pub later : ℕ → ℕ → Bool
  -- how many points j may still have while k's order is pending
  pub credit : ℕ → ℕ → ℕ
  -- of k's order: what its clock stays below, and the furthest position that its entry named
  pub limit : ℕ → ℕ
  pub reach : ℕ → ℕ
  -- of a worker that helps: the clock when its present round began, and how many rounds it may still begin
  pub begun : ℕ → ℕ
  pub budget : ℕ → ℕ

abbrev pub clock : {T : Type 0} → Memory → Ghost T → Progress → ℕ → ℕ
clock m g x k = g.position m.tail + g.position m.head + g.last + x.reach k

-- 1 for an order without a point, 1 for a taker, 1 for a worker whose order was not placed later
abbrev pub unserved : {T : Type 0} → Option (Given T) → ℕ
unserved None = 1
unserved (Some v) = 0

abbrev pub waits : {T : Type 0} → Option (Open T) → ℕ
waits None = 0
waits (Some o) = unserved o.given

abbrev pub taken : Option ℕ → ℕ
taken None = 0
taken (Some k) = 1

abbrev pub earlier : Bool → ℕ
earlier true = 0
earlier false = 1

-- the furthest that the clock of k's order can come
abbrev pub ceiling : {T : Type 0} → ℕ → Memory → Ghost T → Progress → ℕ → ℕ
ceiling n m g x k = 2 * (g.position m.head + taken (m.taker m.head)) + 2 * g.last + 2 * total (x.credit k) n + 2 * waits (g.order k)

pub record LimitInvariant {T : Type 0} (n : ℕ) (m : Memory) (g : Ghost T) (x : Progress) : Type 0 where
  pub members : (k : ℕ) → is_pending m k ≡ true → k < n
  pub bound : (k : ℕ) → is_pending m k ≡ true → ceiling n m g x k ≤ x.limit k
  pub near : (k : ℕ) → is_pending m k ≡ true → x.limit k ≤ clock m g x k + (4 * n + 2)
  -- how far k's entry has come
  pub reach_head : (k : ℕ) → is_pending m k ≡ true → x.reach k ≤ g.position m.head
  pub reach_node : (k y : ℕ) → is_pending m k ≡ true → kind_of m k ≡ OrderKind.Fetch → node_of m k ≡ Some y → x.reach k ≡ g.position y
  pub reach_none : (k : ℕ) → is_pending m k ≡ true → kind_of m k ≡ OrderKind.Fetch → node_of m k ≡ None → x.reach k + 1 ≤ g.position m.head
  -- who can still have a point
  pub owed : (k j : ℕ) → is_pending m k ≡ true → j ≢ k → waits (g.order j) + earlier (x.later k j) ≤ x.credit k j
  pub later_busy : (k j : ℕ) → is_pending m k ≡ true → x.later k j ≡ true → g.order j ≢ None
  pub later_other : (k : ℕ) → x.later k k ≡ false

-- how the ghost data change. The order of the worker j has its point
unfoldable pub spent_credit : (ℕ → ℕ → ℕ) → ℕ → ℕ → ℕ → ℕ
spent_credit credit j k i = cond (eqb i j) (credit k i - 1) (credit k i)

abbrev pub spent : Progress → ℕ → Progress
spent x j = record { later = x.later; credit = spent_credit x.credit j; limit = x.limit; reach = x.reach; begun = x.begun; budget = x.budget }

-- k's entry names the position p
abbrev pub reached : Progress → ℕ → ℕ → Progress
reached x k p = record { later = x.later; credit = x.credit; limit = x.limit; reach = put x.reach k p; begun = x.begun; budget = x.budget }

-- w places an order: it is later than every order that is announced
unfoldable pub later_placed : (ℕ → ℕ → Bool) → ℕ → ℕ → ℕ → Bool
later_placed later w k j = cond (eqb j w) (not (eqb k w)) (later k j)

abbrev pub placed_later : Progress → ℕ → Progress
placed_later x w = record { later = later_placed x.later w; credit = x.credit; limit = x.limit; reach = x.reach; begun = x.begun; budget = x.budget }

-- u announces its order: nobody's is later yet, and each other worker may have two points, or one if it has no order
-- without a point
unfoldable pub later_announced : (ℕ → ℕ → Bool) → ℕ → ℕ → ℕ → Bool
later_announced later u k j = cond (eqb k u) false (later k j)

unfoldable pub credit_of : {T : Type 0} → (ℕ → Option (Open T)) → ℕ → ℕ → ℕ
credit_of order u j = cond (eqb j u) 0 (waits (order j) + 1)

abbrev pub announced : {T : Type 0} → ℕ → Memory → Ghost T → Progress → ℕ → Progress
announced n m g x u = record { later = later_announced x.later u; credit = put x.credit u (credit_of g.order u); limit = put x.limit u (2 * (g.position m.head + taken (m.taker m.head)) + 2 * g.last + 2 * total (credit_of g.order u) n + 2); reach = put x.reach u (g.position m.head - 1); begun = x.begun; budget = x.budget }

-- w begins a round of helping when the clock shows c, with a budget of so many more
abbrev pub beginning : Progress → ℕ → ℕ → ℕ → Progress
beginning x w c rounds = record { later = x.later; credit = x.credit; limit = x.limit; reach = x.reach; begun = put x.begun w c; budget = put x.budget w rounds }
