-- The workers below n are gone through once.
use Rattle.std.proofs.Common.{rules, refl, ◌∙◌, arith}
use Rattle.std.proofs.lemmas.Iterator.{YieldsList-from_range}
use Rattle.std.proofs.lemmas.Iterator.Search.{all_from_yields_List}
use borrow.Author.Tests.{tests}
use Rattle.pickers.specs.Frames.{names}
use Rattle.pickers.proofs.RowLaws.{all_named-list_all}
use Rattle.pickers.proofs.frame.made.all_named.Goals as goal

pub returns : goal.returns
returns c =
    let n = c.args.n in
    let ws = c.args.row.now in
    all_from_yields_List (names ws) _ _ _ c.all.ensures.ran (YieldsList-from_range 0 n n refl (omega arith)) (λ x b q k. search (rules, tests)) ∙ all_named-list_all n ws
