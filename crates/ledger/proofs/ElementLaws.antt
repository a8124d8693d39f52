-- The fields of an element: they are few bytes, with no tab and no byte 10, and are read back as the element.
use Rattle.std.proofs.Common.{◌≡◌, ℕ, ◌<◌, Ok, refl, arith}
use Rattle.std.proofs.lemmas.Bool.Decides.{nat_tests}
use Rattle.vocabulary.specs.declared.bundle.Bundle.{Bundle}
use Rattle.vocabulary.specs.declared.landing.Landing.{Landing}
use Rattle.texts.specs.Elements.{bundle_of, landing_of}
use Rattle.ledger.specs.Elements.{bundle_fields, landing_fields}
use Rattle.ledger.specs.Reading.{BundleInRange, LandingInRange}
use Rattle.ledger.proofs.CutLaws.{Lack}
use Rattle.ledger.proofs.NumberLaws.{decimal-lacks, signed-lacks, within-back, coordinate-back}

pub bundle-lacks : (s : ℕ) → s < 11 → (b : Bundle) → BundleInRange b → Lack s (bundle_fields b)
bundle-lacks s low b ok = (decimal-lacks s b.field (omega arith) (omega arith), (decimal-lacks s b.wavelength (omega arith) (omega arith), (decimal-lacks s b.rays (omega arith) (omega arith), tt)))

pub bundle-back : (b : Bundle) → BundleInRange b → (t : ℕ) → bundle_of (record { left = bundle_fields b; taken = t }) ≡ Ok b
bundle-back b ok t = rw (within-back 0 255 b.field (omega arith) ok.field (omega arith), within-back 0 255 b.wavelength (omega arith) ok.wavelength (omega arith), within-back 0 65535 b.rays (omega arith) ok.rays (omega arith)) refl

pub landing-lacks : (s : ℕ) → s < 11 → (l : Landing) → LandingInRange l → Lack s (landing_fields l)
landing-lacks s low (Landing.Lost n) ok = (grind (arith, nat_tests), (decimal-lacks s n (omega arith) (omega arith), tt))
landing-lacks s low (Landing.Hit x y) ok = (grind (arith, nat_tests), (signed-lacks s x (omega arith) ok.0, (signed-lacks s y (omega arith) ok.1, tt)))

pub landing-back : (l : Landing) → LandingInRange l → (t : ℕ) → landing_of (record { left = landing_fields l; taken = t }) ≡ Ok l
landing-back (Landing.Lost s) ok t = rw (within-back 0 255 s (omega arith) ok (omega arith)) refl
landing-back (Landing.Hit x y) ok t = rw (coordinate-back x ok.0, coordinate-back y ok.1) refl
