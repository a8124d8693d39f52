-- The first line of a ledger: the run that card and sheet begin, or the fault that keeps it from beginning.
use Rattle.std.specs.Prelude.{ℕ, List, length, Some, None, Ok, Err, Option, Result}
use Rattle.vocabulary.specs.declared.kind.ElementKind.{ElementKind}
use Rattle.texts.specs.Cards.{CardSays}
use Rattle.texts.specs.Faults.{Spot}
use Rattle.texts.specs.Places.{Place}
use Rattle.texts.specs.Sheets.{kind_at}
use Rattle.ledger.specs.declared.picker.PickerKind.{PickerKind}
use Rattle.ledger.specs.LedgerLines.{run_bytes, fault_bytes}

-- the window of rounds is the crew's number, that of a frame the length of its row
abbrev pub run_by : ℕ → Option (List ℕ) → ElementKind → List ℕ
run_by n None kind = run_bytes n kind PickerKind.Round n
run_by n (Some row) kind = run_bytes n kind PickerKind.Frame (length row)

abbrev pub run_of : CardSays → ElementKind → List ℕ
run_of c kind = run_by c.crew c.row kind

abbrev pub fault_of : Spot → List ℕ
fault_of s = fault_bytes s.text s.line s.field s.number

-- a fault of the card counts before any of the sheet
abbrev pub sheet_head : CardSays → Result ElementKind Spot → List ℕ
sheet_head c (Ok kind) = run_of c kind
sheet_head c (Err s) = fault_of s

abbrev pub head_bytes : Result CardSays Spot → Place → List ℕ
head_bytes (Ok c) p = sheet_head c (kind_at p)
head_bytes (Err s) p = fault_of s
