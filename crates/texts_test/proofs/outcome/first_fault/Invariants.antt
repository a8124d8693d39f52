use Rattle.std.proofs.Common.{length, Option}
use Rattle.texts.specs.Faults.{Spot}
use Rattle.texts.specs.Places.{Place}
use Rattle.texts_test.specs.FirstFaults.{FirstFault}
use Rattle.texts_test.proofs.outcome.first_fault.Given as goal

abbrev pub decreases-loop-fault : goal.decreases-loop-fault
decreases-loop-fault g l = length l.sheet.place.rest

-- what is found from here on is what is found from the beginning on
abbrev pub invariant-loop-fault : goal.invariant-loop-fault
invariant-loop-fault g l = (s : Option Spot) (q : Place) → FirstFault g.T.Element.reads l.sheet.place s q → FirstFault g.T.Element.reads l.initial.sheet.place s q
