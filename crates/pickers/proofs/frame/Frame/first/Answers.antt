-- The row 0 1 .. n - 1 names every worker of the crew.
use Rattle.std.proofs.Common.{◌≡◌, take, ap, ◌∙◌, rules}
use Rattle.pickers.specs.Frames.{all_below, all_named, up_to}
use Rattle.pickers.proofs.RowLaws.{up_to-all_below, up_to-all_named}
use Rattle.pickers.proofs.frame.Frame.first.Goals as goal

pub invariant_of-result : goal.invariant_of-result
invariant_of-result c =
    let n = c.args.crew.n in
    let row : take c.size-n.result c.loop-worker.places ≡ up_to n = search rules in
    record {
      short = search rules;
      within = search rules;
      sized = search rules;
      known = ap (all_below n) row ∙ up_to-all_below n;
      named = ap (all_named n) row ∙ up_to-all_named n;
    }
