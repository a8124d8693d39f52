-- A frame that was filled says what the line's workers say, and a row that was refused is bad where the line is.
use Rattle.std.proofs.Common.{◌≡◌, ℕ, ◌≤◌, List, ◌++◌, length, take, Some, Ok, Err, Result, sym, ap, ◌∙◌, arith}
use Rattle.std.proofs.lemmas.List.{take_at}
use Rattle.std.proofs.lemmas.Bool.Decides.{nat_tests}
use Rattle.pickers.specs.Frames.{judged}
use Rattle.texts.specs.declared.fault.Bad.{Bad}
use Rattle.texts.specs.Cards.{CardSays, frame_of}
use Rattle.texts.specs.Lines.{and_then}
use Rattle.texts.specs.Workers.{kept_all, kept_all_or}
use Rattle.texts.proofs.WorkerLaws.{frame-kept}

-- a row that is kept of a line stands for the whole line
pub frame-line : (n : ℕ) (row : List ℕ) (r : Result (List ℕ) Bad) → n ≤ 16 → Ok row ≡ kept_all_or r → frame_of n row ≡ and_then r (frame_of n)
frame-line n row (Ok ws) h e =
    let same : row ≡ kept_all ws = cc in
    ap (frame_of n) same ∙ frame-kept n ws (omega arith)
frame-line n row (Err b) h e = grind arith

-- a row that fills a frame
pub frame-says : (n crew len at : ℕ) (row places rest : List ℕ) → crew ≡ n → len ≡ length row → at ≡ 0 → places ≡ row ++ rest → Ok tt ≡ judged n row → ◌≡◌ {A = Result CardSays Bad} (Ok (record { crew = crew; row = Some (take len places); next = at })) (frame_of n row)
frame-says n crew len at row places rest c l a p j =
    let taken : take len places ≡ row = ap (take len) p ∙ take_at row rest len (sym l) in
    let full : ◌≡◌ {A = Result CardSays Bad} (Ok (record { crew = n; row = Some row; next = 0 })) (frame_of n row) = grind (arith, nat_tests) in
    rw (taken, c, a) full
