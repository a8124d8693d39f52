use Rattle.std.proofs.Common.{◌≡◌, [], length}
use Rattle.texts.specs.Lines.{row}
use Rattle.texts.proofs.Gathers.{gather}
use Rattle.texts.proofs.workers.named.Given as goal

abbrev pub invariant-loop-fields : goal.invariant-loop-fields
invariant-loop-fields l = gather l.workers.items (row l.fields).taken (row l.fields).left ≡ gather [] (row l.initial.fields).taken (row l.initial.fields).left

abbrev pub decreases-loop-fields : goal.decreases-loop-fields
decreases-loop-fields l = length (row l.fields).left
