use Rattle.std.proofs.Common.{length}
use Rattle.texts_test.proofs.outcome.SheetOfDisplay.fmt.Given as goal

abbrev pub decreases-loop-line : goal.decreases-loop-line
decreases-loop-line g l = length l.sheet.place.rest
