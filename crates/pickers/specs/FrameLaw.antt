-- A frame is a lawful and fair picker: its row names every worker of the crew, so it is as long as the crew, each worker is due
-- within it, and the step to the following place brings every worker but the named one nearer.
use Rattle.std.specs.Prelude.{◌≡◌, ℕ, ◌<◌, length, take, slice_index, slice_index_or}
use Rattle.std.proofs.Common.{ap, ◌∙◌, arith}
use Rattle.std.proofs.lemmas.List.{length-take-le, get_or-take}
use Rattle.std.proofs.lemmas.Bool.Decides.{nat_tests}
use Rattle.pickers.specs.Meaning.{Lawful, Fairness}
use Rattle.pickers.specs.Turns.{following}
use Rattle.pickers.specs.Waits.{wait_from}
use Rattle.pickers.specs.declared.frame.Frame.{Frame}
use Rattle.pickers.specs.Rows.{all_named-names, all_named-length, all_below-slice_index}
use Rattle.pickers.specs.Waiting.{wait_from-le, wait_from-following}

module _ (p : Frame) where
  row_length : length (take p.len p.places) ≡ p.len
  row_length = length-take-le p.len p.places (omega arith)

  named-is : slice_index_or (take p.len p.places) p.at 0 ≡ slice_index p.places p.at
  named-is = get_or-take p.len p.places p.at 0 (omega arith)

  pub frame-lawful : Lawful p.crew.n p.len (wait_from p.at (take p.len p.places))
  frame-lawful =
      let n = p.crew.n in
      let row = take p.len p.places in
      let l = row_length in
      record {
        crew_min = p.crew.some;
        crew_max = p.crew.few;
        window_min = let h = all_named-length n row p.named in omega arith;
        window_max = omega arith;
        due_min = λ b h. omega arith;
        due_max = λ b h. let d = wait_from-le p.at row b (omega arith) (all_named-names n row p.named b h) in omega arith;
      }

  pub frame-member : slice_index_or p.places p.at 0 < p.crew.n
  frame-member =
      let l = row_length in
      rw named-is at (all_below-slice_index p.crew.n (take p.len p.places) p.at (omega arith) p.known)

  -- k is the place that is read after this one
  pub frame-fair : (k : ℕ) → k ≡ following p.len p.at → Fairness p.crew.n p.len (wait_from p.at (take p.len p.places)) (slice_index p.places p.at) (wait_from k (take p.len p.places))
  frame-fair k e =
      let n = p.crew.n in
      let row = take p.len p.places in
      let named = slice_index_or p.places p.at 0 in
      let l = row_length in
      let has = all_named-names n row p.named in
      let step : k ≡ following (length row) p.at = rw l e in
      let within : k < length row = grind (arith, nat_tests) in
      record {
        others_fall = λ b h ne.
            let f = wait_from-following row p.at b (omega arith) (λ d. ne (d ∙ named-is)) (has b h) in
            omega (arith, ap (λ j. wait_from j row b) step);
        others_min = λ b h ne. omega arith;
        named_min = omega arith;
        named_max = let f = wait_from-le k row named (omega arith) (has named frame-member) in omega arith;
      }
