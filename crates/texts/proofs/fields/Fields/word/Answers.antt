-- The word is what stands before the next tab, and what comes after that tab is left.
use Rattle.texts.proofs.RowLaws.{word-is, next-is}
use Rattle.texts.proofs.fields.Fields.word.Goals as goal

pub returns-clause-value : goal.returns-clause-value
returns-clause-value c =
    let self = c.args.self.now in
    rw c.in_ok-rest.ensures.ok_part (word-is c.in_ok-rest.rest.now self.taken c.length_before-n.result c.length_before-n.ensures.value)

pub returns-clause-after : goal.returns-clause-after
returns-clause-after c =
    let self = c.args.self.now in
    rw c.in_ok-rest.ensures.ok_part (next-is c.in_ok-rest.rest.now self.taken c.length_before-n.result c.length_before-n.ensures.value c.get-self.result c.get-self.ensures.lookup.0)
