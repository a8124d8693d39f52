use Rattle.std.proofs.Common.{◌≡◌, ◌^◌, ◌<◌, drop}
use Rattle.texts.specs.Numbers.{value_from}
use Rattle.texts.proofs.number.number.Given as goal

abbrev pub invariant-loop-b : goal.invariant-loop-b
invariant-loop-b l = (l.value < 10 ^ l.b-index) × (value_from l.value (drop l.b-index l.digits) ≡ value_from 0 l.digits)
