-- A fault without its borrow: where it is, the bytes that it hands out, and where they lie.
use Rattle.std.specs.Prelude.{ℕ, List, Ok, Err, Result}
use Rattle.vocabulary.specs.declared.refusal.Refusal.{Refusal}
use Rattle.texts.specs.declared.fault.Fault.{Fault}
use Rattle.texts.specs.declared.fault.TextName.{TextName}

pub record Spot : Type 0 where
  pub text : TextName
  pub line : ℕ
  pub field : ℕ
  pub number : Refusal
  pub part : List ℕ
  -- the part's address: a block of memory and an offset in it
  pub address : ℕ × ℕ

abbrev pub spot_of : Fault → Spot
spot_of f = record { text = f.text; line = f.line; field = f.field; number = f.number; part = f.part.now; address = f.part.ref_ptr }

abbrev pub placed : {A : Type 0} → Result A Fault → Result A Spot
placed (Ok a) = Ok a
placed (Err f) = Err (spot_of f)
