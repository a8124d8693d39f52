-- The loop gathers the workers of all fields, up to the first that is no number.
use Rattle.std.proofs.lemmas.Result.{err_from_is_err_and}
use Rattle.std.proofs.Common.{sym}
use Rattle.texts.specs.Lines.{row}
use Rattle.texts.proofs.Gathers.{gather-end, gather-bad}
use Rattle.texts.proofs.workers.named.Goals as goal

pub returns-in_err-worker : goal.returns-in_err-worker
returns-in_err-worker c =
    let p = err_from_is_err_and c.from_residual.result c.from_residual.ensures.1 in
    let l = row c.loop-fields.fields in
    rw (p.1, p.2) (gather-bad c.loop-fields.workers.items l.taken l.left (row c.args.fields).taken (row c.args.fields).left c.in_err-worker.field-0.0 (sym c.loop-fields-test.ensures) c.in_err-worker.ensures.value c.loop-fields.invariant)

pub returns : goal.returns
returns c =
    let l = row c.loop-fields.fields in
    gather-end c.loop-fields.workers.items l.taken l.left (row c.args.fields).taken (row c.args.fields).left (sym c.loop-fields-test.ensures) c.loop-fields.invariant
