-- Each test is computed on each sample, and what it says of the sample is carried over to the promise.
use Rattle.std.proofs.Common.{refl}
use Rattle.promise.specs.Maps.{put}
use Rattle.promise.specs.SampleForms.{Kept, ToldApart}
use Rattle.promise.specs.Samples.{lawful_samples, too_many_steps_pairs}
use Rattle.promise.specs.SamplesOrder.{out_of_order_pairs}
use Rattle.promise.specs.SamplesTold.{ill_told_pairs}
use Rattle.promise.proofs.SampleLaws.{kept_b, kept, told_apart_b, told-apart, all_from}
use Rattle.promise.proofs.TurnSamples.{turns_of_two-breaks, turns_of_one-breaks, window, crew}
use Rattle.promise.proofs.samples.statement_is_sane.Goals as goal

pub returns : goal.returns
unfolding put
returns c = record {
  lawful = all_from kept_b Kept kept lawful_samples refl;
  told = all_from told_apart_b ToldApart told-apart ill_told_pairs refl;
  ordered = all_from told_apart_b ToldApart told-apart out_of_order_pairs refl;
  limited = all_from told_apart_b ToldApart told-apart too_many_steps_pairs refl;
  turns_of_two = turns_of_two-breaks;
  turns_of_one = turns_of_one-breaks;
  window = window;
  crew = crew;
}
