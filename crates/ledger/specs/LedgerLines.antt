-- The bytes of the ledger's lines.
use Rattle.std.specs.Prelude.{ℕ, List, [], ◌∷◌, codes, decimal}
use Rattle.vocabulary.specs.declared.kind.ElementKind.{ElementKind}
use Rattle.vocabulary.specs.declared.refusal.Refusal.{Refusal}
use Rattle.vocabulary.specs.Kinds.{element_word}
use Rattle.vocabulary.specs.Refusals.{number_of}
use Rattle.texts.specs.declared.fault.TextName.{TextName}
use Rattle.texts.specs.Words.{name_word}
use Rattle.ledger.specs.declared.picker.PickerKind.{PickerKind}
use Rattle.ledger.specs.Lines.{line_of}

-- the word of each way to name the workers
abbrev pub picker_name : PickerKind → List ℕ
picker_name PickerKind.Round = codes "round"
picker_name PickerKind.Frame = codes "frame"

-- the crew's number, what the posts bring, the picker and its window
abbrev pub run_bytes : ℕ → ElementKind → PickerKind → ℕ → List ℕ
run_bytes n kind picker window = line_of (codes "run" ∷ decimal n ∷ element_word kind ∷ picker_name picker ∷ decimal window ∷ [])

-- the text that is bad, the line and the field, and the refusal's number
abbrev pub fault_bytes : TextName → ℕ → ℕ → Refusal → List ℕ
fault_bytes text line field number = line_of (codes "fault" ∷ name_word text ∷ decimal line ∷ decimal field ∷ decimal (number_of number) ∷ [])
