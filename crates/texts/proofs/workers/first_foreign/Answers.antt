-- The first worker that is not below n stands at the first place where the test passes.
use Rattle.std.proofs.Common.{leb, ◌∙◌, rules}
use Rattle.std.proofs.lemmas.Iterator.{YieldsList-from_slice}
use Rattle.std.proofs.lemmas.Iterator.Search.{position_from_yields_List}
use borrow.Author.Tests.{tests}
use Rattle.texts.proofs.WorkerLaws.{foreign-place}
use Rattle.texts.proofs.workers.first_foreign.Goals as goal

pub returns-clause-value : goal.returns-clause-value
returns-clause-value c =
    let ws = c.args.row.now in
    let place = position_from_yields_List (λ w. leb c.args.n w) _ _ c.position.result c.position.ensures.ran (YieldsList-from_slice ws cc) (λ x b q k. search (rules, tests)) in
    c.unwrap_or.ensures ∙ foreign-place c.args.n ws c.position.result place
