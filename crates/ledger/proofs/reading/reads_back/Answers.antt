-- Each part of the theorem, from the laws of numbers, elements and lines.
use Rattle.texts.specs.Elements.{bundle_of, landing_of}
use Rattle.ledger.specs.Elements.{bundle_fields, landing_fields}
use Rattle.ledger.specs.Reading.{BundleInRange, LandingInRange}
use Rattle.ledger.proofs.ElementLaws.{bundle-lacks, bundle-back, landing-lacks, landing-back}
use Rattle.ledger.proofs.NumberLaws.{number-back, coordinate-back}
use Rattle.ledger.proofs.SheetLaws.{kind-back, line-back}
use Rattle.ledger.proofs.reading.reads_back.Goals as goal

pub returns : goal.returns
returns c =
    record {
      numbers = number-back;
      coordinates = coordinate-back;
      bundles = bundle-back;
      landings = landing-back;
      kinds = kind-back;
      bundle_lines = line-back bundle_fields bundle_of BundleInRange bundle-back bundle-lacks;
      landing_lines = line-back landing_fields landing_of LandingInRange landing-back landing-lacks;
    }
