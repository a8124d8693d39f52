-- The fields of each element, in shortest form.
use Rattle.std.specs.Prelude.{ℕ, List, [], ◌∷◌, codes, decimal}
use Rattle.std.specs.Fmt.{signed_decimal}
use Rattle.vocabulary.specs.declared.bundle.Bundle.{Bundle}
use Rattle.vocabulary.specs.declared.landing.Landing.{Landing}

abbrev pub bundle_fields : Bundle → List (List ℕ)
bundle_fields b = decimal b.field ∷ decimal b.wavelength ∷ decimal b.rays ∷ []

abbrev pub landing_fields : Landing → List (List ℕ)
landing_fields (Landing.Lost s) = codes "lost" ∷ decimal s ∷ []
landing_fields (Landing.Hit x y) = codes "hit" ∷ signed_decimal x ∷ signed_decimal y ∷ []
