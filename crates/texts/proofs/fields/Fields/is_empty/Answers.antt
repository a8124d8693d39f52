-- A row that has a next field is not empty.
use Rattle.texts.proofs.RowLaws.{row-empty}
use Rattle.texts.proofs.fields.Fields.is_empty.Goals as goal

pub returns : goal.returns
returns c = row-empty c.args.self.now.rest c.is_none.result c.is_none.ensures
