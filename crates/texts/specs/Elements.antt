-- Which element the last fields of a post's line write.
use Rattle.std.specs.Prelude.{cond, Ok, Err, codes, Result}
use Rattle.std.specs.Str.{bytes_eq}
use Rattle.vocabulary.specs.declared.bundle.Bundle.{Bundle}
use Rattle.vocabulary.specs.declared.landing.Landing.{Landing}
use Rattle.texts.specs.declared.fault.Bad.{Bad}
use Rattle.texts.specs.Lines.{Row, next_row, bad_row, word_at, number_at, coordinate_at, end_at, last_number, and_then}

-- three numbers: field, wavelength and rays
abbrev pub bundle_of : Row → Result Bundle Bad
bundle_of v = and_then (number_at 0 255 v) (λ f. and_then (number_at 0 255 (next_row v)) (λ l. and_then (number_at 0 65535 (next_row (next_row v))) (λ r. and_then (end_at (next_row (next_row (next_row v)))) (λ _. Ok (record { field = f; wavelength = l; rays = r })))))

-- the surface at which the ray was lost
abbrev pub lost_of : Row → Result Landing Bad
lost_of v = and_then (last_number 0 255 v) (λ s. Ok (Landing.Lost s))

-- x and y of the place that it hit
abbrev pub landing_hit : Row → Result Landing Bad
landing_hit v = and_then (coordinate_at v) (λ x. and_then (coordinate_at (next_row v)) (λ y. and_then (end_at (next_row (next_row v))) (λ _. Ok (Landing.Hit x y))))

-- `lost` or `hit`, and what belongs to it
abbrev pub landing_of : Row → Result Landing Bad
landing_of v = and_then (word_at v) (λ w. cond (bytes_eq w (codes "lost")) (lost_of (next_row v)) (cond (bytes_eq w (codes "hit")) (landing_hit (next_row v)) (Err (bad_row v))))
