-- The first places have the workers so far, in order.
use Rattle.std.proofs.Common.{◌≡◌, length, take}
use Rattle.pickers.specs.Frames.{up_to}
use Rattle.pickers.proofs.frame.Frame.first.Given as goal

abbrev pub invariant-loop-worker : goal.invariant-loop-worker
invariant-loop-worker l = (length l.places ≡ 64) × (take l.worker l.places ≡ up_to l.worker)
