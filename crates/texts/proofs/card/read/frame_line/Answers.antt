-- The row that is kept of the line fills the frame, or is refused, as the line itself.
use Rattle.std.proofs.Common.{length, drop, ap, ◌∙◌}
use Rattle.pickers.specs.Frames.{judged}
use Rattle.texts.specs.Cards.{workers_of, frame_of}
use Rattle.texts.specs.Lines.{row}
use Rattle.texts.proofs.FrameLaws.{frame-line, frame-says}
use Rattle.texts.proofs.card.read.frame_line.Goals as goal

pub returns-in-Ok : goal.returns-in-Ok
returns-in-Ok c =
    let n = c.args.crew.n in
    let v = row c.args.fields in
    let filled = c.in-Ok.ensures.frame in
    let first = c.first-frame.ensures.same_crew in
    let frame = c.fill.new.self in
    frame-says n frame.crew.n frame.len frame.at c.deref.result.now frame.places (drop (length c.deref.result.now) c.first-frame.result.places) (ap (λ k. k.n) (filled.same_crew ∙ first)) filled.row_length filled.at_first filled.row_placed (c.in-Ok.ensures.answer ∙ ap (λ k. judged k.n c.deref.result.now) first)
    ∙ ap (frame_of n) c.deref.ensures.0
    ∙ frame-line n c.in_ok-workers.workers.items (workers_of v.taken v.left) c.args.crew.few c.in_ok-workers.ensures

pub returns-in-Err : goal.returns-in-Err
returns-in-Err c =
    let n = c.args.crew.n in
    let v = row c.args.fields in
    c.bad_worker.ensures
    ∙ ap (λ k. frame_of k c.deref-in-Err.result.now) c.size.ensures
    ∙ ap (frame_of n) c.deref-in-Err.ensures.0
    ∙ frame-line n c.in_ok-workers.workers.items (workers_of v.taken v.left) c.args.crew.few c.in_ok-workers.ensures
