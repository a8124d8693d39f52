-- The words of the texts' names.
use Rattle.std.specs.Prelude.{ℕ, List, codes}
use Rattle.texts.specs.declared.fault.TextName.{TextName}

abbrev pub name_word : TextName → List ℕ
name_word TextName.Card = codes "card"
name_word TextName.Sheet = codes "sheet"
