-- Each line that is read leaves less of the sheet; the line that ends the loop says whether there is a fault.
use Rattle.std.proofs.Common.{length, Some, None, Ok, sym, ap, ◌∙◌, subst, arith}
use Rattle.texts.specs.Faults.{spot_of}
use Rattle.texts.proofs.SheetLaws.{next-shorter}
use Rattle.texts_test.specs.FirstFaults.{FirstFault}
use Rattle.texts_test.proofs.outcome.first_fault.Goals as goal

pub loop-fault-smaller : goal.loop-fault-smaller
loop-fault-smaller g c =
    let said = ap Ok (sym c.in-Ok-Some.field-0-is) ∙ c.in-Ok-Some.ensures.value in
    let shorter = next-shorter g.T.Element.reads c.loop-fault.sheet.place c.in-Ok-Some.field-0-0 said in
    let after = ap (λ p. length p.rest) c.next_line.ensures.after in
    omega arith

pub loop-fault-preserved : goal.loop-fault-preserved
loop-fault-preserved g c s q later =
    let reads = g.T.Element.reads in
    let said = ap Ok (sym c.in-Ok-Some.field-0-is) ∙ c.in-Ok-Some.ensures.value in
    let on = subst (λ p. FirstFault reads p s q) c.next_line.ensures.after later in
    c.loop-fault.invariant s q (FirstFault.goes_on c.loop-fault.sheet.place c.in-Ok-Some.field-0-0 s q (sym said) on)

pub returns-in-Ok-None : goal.returns-in-Ok-None
returns-in-Ok-None g c =
    let said = ap Ok (sym c.in-Ok-None.field-0-is) ∙ c.in-Ok-None.ensures.value in
    c.loop-fault.invariant None c.next_line.new.self.place (rw c.next_line.ensures.after (FirstFault.ends c.loop-fault.sheet.place (sym said)))

pub returns-in-Err : goal.returns-in-Err
returns-in-Err g c =
    let found = Some (spot_of c.in-Err.fault) in
    c.loop-fault.invariant found c.next_line.new.self.place (rw c.next_line.ensures.after (FirstFault.faults c.loop-fault.sheet.place (spot_of c.in-Err.fault) (sym c.in-Err.ensures.value)))
