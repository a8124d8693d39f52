-- The next line is ended exactly where a byte of the text follows it.
use Rattle.std.proofs.Common.{◌≡◌, length, drop, Ok, Err, refl, ap, ◌∙◌, arith}
use Rattle.texts.specs.Cuts.{before}
use Rattle.texts.specs.Places.{bad_line, first_field}
use Rattle.texts.proofs.PlaceLaws.{line-within, line-ended, line-unended, rest-after}
use Rattle.texts.proofs.reader.Reader.line.Goals as goal

pub returns-then-end-self : goal.returns-then-end-self
returns-then-end-self c =
    let xs = c.self.inside.text.now in
    let at = c.self.inside.at in
    let line = rw (← c.self.view_is) at c.whole_line-line.ensures in
    let here : length c.whole_line-line.result.bytes.now ≡ length (before 10 (drop at xs)) = ap (λ l. length l.bytes) line in
    let no_end = line-unended xs at (length c.whole_line-line.result.bytes.now) here (omega arith) in
    rw (← c.self.view_is) (record {
      value = rw no_end (ap Err (c.fault.ensures ∙ ap (λ l. bad_line l first_field) line));
      after = rw no_end refl;
    })

pub invariant_of-self-inside : goal.invariant_of-self-inside
invariant_of-self-inside c =
    let xs = c.self.inside.text.now in
    let at = c.self.inside.at in
    let n = length c.whole_line-line.result.bytes.now in
    let line = rw (← c.self.view_is) at c.whole_line-line.ensures in
    let here : length c.whole_line-line.result.bytes.now ≡ length (before 10 (drop at xs)) = ap (λ l. length l.bytes) line in
    let l = line-within xs at n here c.self.inside.within in
    let ne = c.if-end-self.false in
    (grind arith, omega (arith, c.self.inside.counted))

pub returns : goal.returns
returns c =
    let xs = c.self.inside.text.now in
    let at = c.self.inside.at in
    let n = length c.whole_line-line.result.bytes.now in
    let line = rw (← c.self.view_is) at c.whole_line-line.ensures in
    let here : length c.whole_line-line.result.bytes.now ≡ length (before 10 (drop at xs)) = ap (λ l. length l.bytes) line in
    let l = line-within xs at n here c.self.inside.within in
    let ne = c.if-end-self.false in
    let ended = line-ended xs at n here (grind arith) in
    rw (← c.self.view_is) (record {
      value = rw ended (ap Ok line);
      after = rw (ended, ← here, rest-after xs at n here) refl;
    })
