-- What the tests compute of a sample is what holds of it.
use Rattle.std.proofs.Common.{◌≡◌, ℕ, ◌*◌, ◌≤◌, Bool, true, not, ◌&&◌, List, [], ◌∷◌, Decides, mul-le-mul_left, arith}
use Rattle.std.specs.List.{AllByRecursion}
use Rattle.std.proofs.lemmas.Bool.{and_parts}
use Rattle.std.proofs.lemmas.Bool.Decides.{Decides-not}
use Rattle.vocabulary.specs.Crews.{allowance}
use Rattle.promise.specs.Books.{book_of}
use Rattle.promise.specs.Checks.{well_told_b, in_order_b, own_step_limit_b, turn_limit_b}
use Rattle.promise.specs.Events.{Event, Told, told}
use Rattle.promise.specs.Limits.{turn_in, after_placed, WithinLimit}
use Rattle.promise.specs.SampleForms.{Sample, IsWellTold, IsInOrder, IsInOwnSteps, IsInTurns, Kept, Broken, Breaks, Pair, ToldApart}
use Rattle.promise.proofs.CheckLaws.{decides-well-told, decides-in-order, decides-within, decides-own-steps}

-- a limit may be raised
module _ (count : ℕ → Told ℕ → ℕ) (limit more : ℕ) (l : limit ≤ more) where
  placed-raised : (m : Told ℕ) (t : List (Event ℕ)) → after_placed count limit m t → after_placed count more m t
  placed-raised (Told.refused n) t h = tt
  placed-raised (Told.placed w a) t h = omega arith
  placed-raised (Told.idled v turn) t h = tt
  placed-raised (Told.stepped v turn p a) t h = tt
  placed-raised Told.misfit t h = tt

  within-raised : (t : List (Event ℕ)) → WithinLimit count limit t → WithinLimit count more t
  within-raised [] h = tt
  within-raised (e ∷ t) h = (placed-raised (told e) t h.0, within-raised t h.1)

module _ (s : Sample) where
  abbrev told_b : Bool
  told_b = well_told_b true s.events

  abbrev order_b : Bool
  order_b = in_order_b true (book_of s.events) s.left

  abbrev steps_b : Bool
  steps_b = own_step_limit_b s.crew s.events

  abbrev turns_b : Bool
  turns_b = turn_limit_b s.crew s.events

  pub told_is : Decides told_b (IsWellTold s)
  told_is = decides-well-told true s.events

  pub order_is : Decides order_b (IsInOrder s)
  order_is = decides-in-order (book_of s.events) true s.left

  pub steps-are : Decides steps_b (IsInOwnSteps s)
  steps-are = decides-own-steps s.crew s.events

  -- turns within the limit for the least window are so for every window
  turns-are : turns_b ≡ true → IsInTurns s
  turns-are e W low high named =
      within-raised (λ w. turn_in) (allowance s.crew * s.crew) (allowance s.crew * W) (mul-le-mul_left (allowance s.crew) low) s.events
      ((decides-within (λ w. turn_in) (allowance s.crew * s.crew) s.events).0 e)

-- four tests, four statements
four : {x y z u : Bool} {P Q R S : Type 0} → (x ≡ true → P) → (y ≡ true → Q) → (z ≡ true → R) → (u ≡ true → S) → (x && y && z && u) ≡ true → P × Q × R × S
four {x} {y} {z} {u} f g h k e =
    let a = and_parts (x && y && z) u e in
    let b = and_parts (x && y) z a.0 in
    let c = and_parts x y b.0 in
    (f c.0, g c.1, h b.1, k a.1)

abbrev pub kept_b : Sample → Bool
kept_b s = told_b s && order_b s && steps_b s && turns_b s

pub kept : (s : Sample) → kept_b s ≡ true → Kept s
kept s e =
    let h = four (told_is s).0 (order_is s).0 (steps-are s).0 (turns-are s) e in
    record { well_told = h.0; in_order = h.1; own_step_limit = h.2; turn_limit = h.3 }

abbrev breaks_b : Broken → Sample → Bool
breaks_b Broken.telling s = not (told_b s) && order_b s && steps_b s && turns_b s
breaks_b Broken.order s = told_b s && not (order_b s) && steps_b s && turns_b s
breaks_b Broken.telling_and_order s = not (told_b s) && not (order_b s) && steps_b s && turns_b s
breaks_b Broken.own_steps s = told_b s && order_b s && not (steps_b s) && turns_b s

breaks : (b : Broken) (s : Sample) → breaks_b b s ≡ true → Breaks b s
breaks Broken.telling s e = four (Decides-not _ (told_is s)).0 (order_is s).0 (steps-are s).0 (turns-are s) e
breaks Broken.order s e = four (told_is s).0 (Decides-not _ (order_is s)).0 (steps-are s).0 (turns-are s) e
breaks Broken.telling_and_order s e = four (Decides-not _ (told_is s)).0 (Decides-not _ (order_is s)).0 (steps-are s).0 (turns-are s) e
breaks Broken.own_steps s e = four (told_is s).0 (order_is s).0 (Decides-not _ (steps-are s)).0 (turns-are s) e

abbrev pub told_apart_b : Pair → Bool
told_apart_b p = breaks_b p.broken p.wrong && kept_b p.right

pub told-apart : (p : Pair) → told_apart_b p ≡ true → ToldApart p
told-apart p e =
    let h = and_parts (breaks_b p.broken p.wrong) (kept_b p.right) e in
    (breaks p.broken p.wrong h.0, kept p.right h.1)

module _ {X : Type 0} (f : X → Bool) where
  abbrev pub all_b : List X → Bool
  all_b [] = true
  all_b (x ∷ xs) = f x && all_b xs

  pub all_from : (P : X → Type 0) → ((x : X) → f x ≡ true → P x) → (xs : List X) → all_b xs ≡ true → AllByRecursion P xs
  all_from P each [] e = tt
  all_from P each (x ∷ xs) e = let h = and_parts (f x) (all_b xs) e in (each x h.0, all_from P each xs h.1)
