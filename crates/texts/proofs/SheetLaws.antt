-- A sheet that is read line by line comes to its end: each line that is read leaves less of it.
use Rattle.std.proofs.Common.{◌≡◌, ◌<◌, true, false, cond, length, Some, None, Ok, Err, Result, inl, inr, arith}
use Rattle.std.proofs.lemmas.Bool.{cases_Bool}
use Rattle.texts.specs.declared.fault.Bad.{Bad}
use Rattle.texts.specs.declared.sheet.SheetLine.{SheetLine}
use Rattle.texts.specs.Cuts.{has}
use Rattle.texts.specs.Lines.{Row}
use Rattle.texts.specs.Places.{Place, after_line, whole_line, bad_line, first_field, all_read}
use Rattle.texts.specs.Sheets.{sheet_line_at}
use Rattle.texts.proofs.CutLaws.{after-shorter}

module _ {T : Type 0} (reads : Row → Result T Bad) (p : Place) where
  -- a line that was read was ended
  line-was-ended : (s : SheetLine T) → Ok (Some s) ≡ sheet_line_at reads p → has 10 p.rest ≡ true
  line-was-ended s e = elim (cases_Bool (has 10 p.rest)) [ inl t ↦ t | inr f ↦ go f (rw f at e) ]
    where
      go : has 10 p.rest ≡ false → Ok (Some s) ≡ cond (all_read p.rest) (Ok None) (Err (bad_line (whole_line p) first_field)) → has 10 p.rest ≡ true
      go f e = elim (cases_Bool (all_read p.rest)) [ inl t ↦ grind arith | inr n ↦ grind arith ]

  pub next-shorter : (s : SheetLine T) → Ok (Some s) ≡ sheet_line_at reads p → length (after_line p).rest < length p.rest
  next-shorter s e = let h = line-was-ended s e in rw h (after-shorter 10 p.rest h)
