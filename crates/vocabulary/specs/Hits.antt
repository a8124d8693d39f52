-- Which landings make a hit.
use Rattle.std.specs.Prelude.{Bool, cond, ◌&&◌, ℤ, pos, negsuc, Some, None, Ok, Err, Option, Result, int_le}
use Rattle.vocabulary.specs.declared.refusal.Refusal.{Refusal}
use Rattle.vocabulary.specs.declared.refusal.Refusal.TheVariants.{Format}
use Rattle.vocabulary.specs.declared.landing.Landing.{Landing}
use Rattle.vocabulary.specs.declared.hit.Hit.{Hit}

-- a coordinate from -2,000,000 to 2,000,000 nanometres
abbrev pub in_bounds : ℤ → Bool
in_bounds c = int_le (negsuc 1999999) c && int_le c (pos 2000000)

-- a hit by its coordinates alone
abbrev pub shown : Result (Option Hit) Refusal → Result (Option (ℤ × ℤ)) Refusal
shown (Ok None) = Ok None
shown (Ok (Some h)) = Ok (Some (h.x, h.y))
shown (Err e) = Err e

-- a lost landing has no hit; one with both coordinates in bounds has that hit; any other is refused
abbrev pub hit_of : Landing → Result (Option (ℤ × ℤ)) Refusal
hit_of (Landing.Lost s) = Ok None
hit_of (Landing.Hit x y) = cond (in_bounds x && in_bounds y) (Ok (Some (x, y))) (Err Format)
