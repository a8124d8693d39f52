-- The card and the sheet's first line, read one after the other.
use Rattle.std.specs.Prelude.{Ok, Err, Result}
use Rattle.vocabulary.specs.declared.kind.ElementKind.{ElementKind}
use Rattle.texts.specs.declared.card.Card.{Card}
use Rattle.texts.specs.declared.fault.Fault.{Fault}
use Rattle.texts.specs.Cards.{CardSays}
use Rattle.texts.specs.Faults.{Spot}
use Rattle.texts.specs.Places.{Place}
use Rattle.texts.specs.Sheets.{kind_at, after_kind}

-- a fault of the card comes before any of the sheet
abbrev pub heads_of : Result CardSays Spot → Place → Result ElementKind Spot
heads_of (Ok c) p = kind_at p
heads_of (Err s) p = Err s

-- of a reading of both: the card or its fault, and the kind or the fault that counts
abbrev pub card_in : Result (Card × Result ElementKind Fault) Fault → Result Card Fault
card_in (Ok h) = Ok h.0
card_in (Err f) = Err f

abbrev pub kind_in : Result (Card × Result ElementKind Fault) Fault → Result ElementKind Fault
kind_in (Ok h) = h.1
kind_in (Err f) = Err f

-- the sheet is not looked at where the card has a fault
abbrev pub sheet_after : Result CardSays Spot → Place → Place
sheet_after (Ok c) p = after_kind p
sheet_after (Err s) p = p
