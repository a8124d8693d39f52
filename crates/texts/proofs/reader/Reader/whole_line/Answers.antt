-- The next line is what stands before the next byte 10, at its place in the text.
use Rattle.std.proofs.Common.{ℕ, ◌+◌, ◌-◌, List, length, take, drop, ap}
use Rattle.std.proofs.lemmas.List.{take_rest}
use Rattle.texts.specs.Places.{LineSpot}
use Rattle.texts.proofs.PlaceLaws.{line-bytes}
use Rattle.texts.proofs.reader.Reader.whole_line.Goals as goal

pub returns : goal.returns
returns c =
    let r = c.self.inside in
    let xs = r.text.now in
    let line : List ℕ → LineSpot = λ ys. record { text = r.name; number = r.lines + 1; bytes = ys; address = (r.text.ref_ptr.0, r.at + r.text.ref_ptr.1) } in
    rw (← c.self.view_is) (ap line (line-bytes (take (length xs - r.at) (drop r.at xs)) (drop r.at xs) c.length_before.result (take_rest xs r.at) c.length_before.ensures.value))
