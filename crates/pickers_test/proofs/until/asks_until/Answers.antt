-- An ask that names another worker is one more turn, and one that names the worker is the end.
use Rattle.std.proofs.Common.{◌<◌, arith, rules}
use Rattle.pickers_test.proofs.Waiting.{waiting-more, waiting-all}
use Rattle.pickers_test.proofs.until.asks_until.Goals as goal

pub loop-count-preserved : goal.loop-count-preserved
loop-count-preserved g c =
    let asked = c.ask.ensures in
    let member : c.args.worker < g.P.Picker.crew c.args.picker.now = omega arith in
    waiting-more _ _ _ _ _ _ _ member c.loop-count.invariant (record { naming = asked.naming; fairness = asked.fairness }) c.if-ask-worker.false

pub returns-then-ask-worker : goal.returns-then-ask-worker
returns-then-ask-worker g c =
    let asked = c.ask.ensures in
    let member : c.args.worker < g.P.Picker.crew c.loop-count.picker = omega arith in
    let due = (g.met.P.Picker.lawful c.loop-count.picker).due_min c.args.worker member in
    let until = waiting-all _ _ _ _ _ _ _ due c.loop-count.invariant (record { naming = asked.naming; fairness = asked.fairness }) c.if-ask-worker.true in
    search rules
