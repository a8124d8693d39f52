use Rattle.std.proofs.Common.{◌≡◌, take, vec_items}
use Rattle.std.specs.List.{flat_map}
use Rattle.texts_test.specs.StandIns.{bytes_for}
use Rattle.texts_test.proofs.stand_in.expanded.Given as goal

abbrev pub invariant-loop-b : goal.invariant-loop-b
invariant-loop-b l = vec_items l.out ≡ flat_map bytes_for (take l.b-index l.part)
