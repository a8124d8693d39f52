-- Each line that is read leaves less of the sheet.
use Rattle.std.proofs.Common.{length, Ok, sym, ap, ◌∙◌, arith}
use Rattle.texts.proofs.SheetLaws.{next-shorter}
use Rattle.texts_test.proofs.outcome.SheetOfDisplay.fmt.Goals as goal

pub loop-line-smaller : goal.loop-line-smaller
loop-line-smaller g c =
    let said = ap Ok (sym c.in-Ok-Some.field-0-is) ∙ c.in-Ok-Some.ensures.value in
    let shorter = next-shorter g.T.Element.reads c.loop-line.sheet.place c.in-Ok-Some.line said in
    let after = ap (λ p. length p.rest) c.next_line.ensures.after in
    omega arith
