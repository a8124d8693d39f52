-- The worker is still to come, and its due number falls with each ask that names another.
use Rattle.pickers_test.specs.Asking.{members}
use Rattle.pickers_test.proofs.Waiting.{Waiting}
use Rattle.pickers_test.proofs.until.asks_until.Given as goal

abbrev pub invariant-loop-count : goal.invariant-loop-count
invariant-loop-count g l = Waiting (members g.P.Picker.crew g.P.Picker.window g.P.Picker.due) l.initial.picker l.worker l.count l.picker
