-- The first fault of a sheet, by what its lines say one after another.
use Rattle.std.specs.Prelude.{◌≡◌, Some, None, Ok, Err, Option, Result}
use Rattle.texts.specs.declared.fault.Fault.{Fault}
use Rattle.texts.specs.declared.fault.Bad.{Bad}
use Rattle.texts.specs.declared.sheet.SheetLine.{SheetLine}
use Rattle.texts.specs.Faults.{Spot, spot_of}
use Rattle.texts.specs.Lines.{Row}
use Rattle.texts.specs.Places.{Place, after_line}
use Rattle.texts.specs.Sheets.{sheet_line_at}

abbrev pub spotted : Option Fault → Option Spot
spotted (Some f) = Some (spot_of f)
spotted None = None

-- read from one place on, the sheet has this first fault or none, and the reading stops at the other place
pub data FirstFault {T : Type 0} (reads : Row → Result T Bad) : Place → Option Spot → Place → Type 0 where
  ends : (p : Place) → sheet_line_at reads p ≡ Ok None → FirstFault reads p None (after_line p)
  faults : (p : Place) (s : Spot) → sheet_line_at reads p ≡ Err s → FirstFault reads p (Some s) (after_line p)
  goes_on : (p : Place) (l : SheetLine T) (s : Option Spot) (q : Place) → sheet_line_at reads p ≡ Ok (Some l) → FirstFault reads (after_line p) s q → FirstFault reads p s q
