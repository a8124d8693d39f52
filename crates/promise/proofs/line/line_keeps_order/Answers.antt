-- The theorem on the abstract line.
use Rattle.promise.proofs.LineKeeps as kept
use Rattle.promise.proofs.line.line_keeps_order.Goals as goal

pub returns : goal.returns
returns g c = kept.line-keeps-order
