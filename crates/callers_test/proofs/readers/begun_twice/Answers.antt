-- Both readers stand at the sheet's beginning.
use Rattle.std.proofs.Common.{sym, ◌∙◌}
use Rattle.texts.proofs.PlaceLaws.{standing-is}
use Rattle.callers_test.proofs.readers.begun_twice.Goals as goal

pub returns-clause-alike : goal.returns-clause-alike
returns-clause-alike c = standing-is _ _ (c.sheet.ensures ∙ sym c.sheet-2.ensures)
