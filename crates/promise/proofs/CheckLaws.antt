-- Each test of the promise is true exactly where its statement holds.
use Rattle.std.proofs.Common.{◌≡◌, ℕ, ◌-◌, ◌<◌, ◌≤◌, Bool, true, false, not, ◌&&◌, ◌||◌, eqb, ltb, leb, List, [], ◌∷◌, length, is_some, Some, None, Decides, Option, refl, ap, subst, arith}
use Rattle.std.proofs.lemmas.Slice.Eq.{bytes_eq-Decides}
use Rattle.std.proofs.lemmas.Bool.{leb-true, le-leb}
use Rattle.std.proofs.lemmas.Bool.Decides.{Decides-and, Decides-below_and, Decides-eqb, Decides-ltb, nat_tests, Decides-like}
use Rattle.vocabulary.specs.Crews.{allowance}
use Rattle.vocabulary.specs.declared.kind.Kind.{Kind}
use Rattle.promise.specs.Books.{Book, blank, after_step, after_point, after_told}
use Rattle.promise.specs.Checks.{same_kind, same_option, if_some, some_passes, the_one, is_empty, all_below, below_b, earlier_step_b, number_fits_b, point_fits_b, answer_fits_b, fits_b, well_from_b, well_told_b, after_placed_b, within_limit_b, own_step_limit_b, agree_b, answered_b, apart_b, above_b, kind_b, in_order_b}
use Rattle.promise.specs.Events.{Event, Point, Answer, Told, told}
use Rattle.promise.specs.Limits.{step_in, until_answer, after_placed, WithinLimit, OwnStepLimit}
use Rattle.promise.specs.Order.{AnsweredBy, InOrder}
use Rattle.promise.specs.PlainList.{kind_from, element_from, plain}
use Rattle.promise.specs.WellTold.{Below, EarlierStep, NumberFits, PointFits, AnswerFits, Fits, WellFrom, WellTold}

-- Small tests

infixl 35 ◌and◌
-- both tests, both statements
◌and◌ : {x y : Bool} {P Q : Type 0} → Decides x P → Decides y Q → Decides (x && y) (P × Q)
◌and◌ {x} {y} d e = Decides-and x y d e

decides-true : Decides true (Unit {0})
decides-true = (λ _. tt, λ _. refl)

decides-leb : (a b : ℕ) → Decides (leb a b) (a ≤ b)
decides-leb a b = (leb-true a b, le-leb a b)

decides-implies : {P Q : Type 0} (x y : Bool) → Decides x P → Decides y Q → Decides (not x || y) (P → Q)
decides-implies true y d e = (λ h _. e.0 h, λ f. e.1 (f (d.0 refl)))
decides-implies false y d e = (λ _ p. grind (arith, d.1 p), λ _. refl)

decides_below : (strict : Bool) (a b : ℕ) → Decides (below_b strict a b) (Below strict a b)
decides_below true a b = Decides-ltb a b
decides_below false a b = decides-leb a b

decides-kind : (a b : Kind) → Decides (same_kind a b) (a ≡ b)
decides-kind a b = grind (arith, nat_tests)

decides-option : (a b : Option ℕ) → Decides (same_option a b) (a ≡ b)
decides-option a b = grind (arith, nat_tests)

module _ {X : Type 0} where
  decides-empty : (xs : List X) → Decides (is_empty xs) (xs ≡ [])
  decides-empty xs = grind arith

  decides-some : (o : Option X) → Decides (is_some o) ((x : X) × (o ≡ Some x))
  decides-some None = (λ e. grind arith, λ h. grind (arith, h.1))
  decides-some (Some x) = (λ _. (x, refl), λ _. refl)

  decides-none : (o : Option X) → Decides (not (is_some o)) (o ≡ None)
  decides-none o = grind arith

  -- a list has exactly the one element x
  the-one-only : (xs : List X) (x : X) → the_one xs ≡ Some x → xs ≡ x ∷ []
  the-one-only xs x e = grind arith

  only-the-one : (xs : List X) (x : X) → xs ≡ x ∷ [] → the_one xs ≡ Some x
  only-the-one xs x e = ap the_one e

  module _ (f : X → Bool) (P : X → Type 0) (each : (x : X) → Decides (f x) (P x)) where
    decides-if-some : (o : Option X) → Decides (if_some f o) ((x : X) → o ≡ Some x → P x)
    decides-if-some None = (λ _ x e. grind arith, λ _. refl)
    decides-if-some (Some y) = (λ h x e. subst P (grind arith) ((each y).0 h), λ h. (each y).1 (h y refl))

    decides-some-passes : (o : Option X) → Decides (some_passes f o) ((x : X) × (o ≡ Some x) × P x)
    decides-some-passes None = (λ e. grind arith, λ h. grind (arith, h.1))
    decides-some-passes (Some y) = (λ h. (y, refl, (each y).0 h), λ h. (each y).1 (subst P (grind (arith, h.1)) h.2))

-- every number below n passes
decides-all : (f : ℕ → Bool) (P : ℕ → Type 0) → ((k : ℕ) → Decides (f k) (P k)) → (n : ℕ) → Decides (all_below f n) ((k : ℕ) → k < n → P k)
decides-all f P each n = Decides-below_and f P (all_below f) each refl (λ _. refl) n

-- Well told

module _ (strict : Bool) where
  decides-earlier : (b : Book ℕ) (w number : ℕ) → Decides (earlier_step_b strict b w number) (EarlierStep strict b w number)
  decides-earlier b w number =
      Decides-like (earlier_step_b strict b w number) (λ h. record { own = h.0.0; before = h.0.1; since = h.1 }) (λ e. ((e.own, e.before), e.since))
      (decides-option (b.stepper number) (Some w) and decides_below strict number b.steps
      and decides-if-some (λ i. ltb (b.placing i) number) (λ i. b.placing i < number) (λ i. Decides-ltb (b.placing i) number) (b.current w))

  decides-number : (b : Book ℕ) (w : ℕ) (kind : Kind) (number : ℕ) → Decides (number_fits_b strict b w kind number) (NumberFits strict b w kind number)
  decides-number b w Kind.Post number = Decides-eqb number b.steps
  decides-number b w Kind.Fetch number = Decides-eqb number b.steps
  decides-number b w Kind.None number = decides-earlier b w number

  decides-point : (b : Book ℕ) (w : ℕ) (p : Option Point) → Decides (point_fits_b strict b w p) (PointFits strict b w p)
  decides-point b w None = decides-true
  decides-point b w (Some p) =
      decides-some-passes (λ i. is_empty (b.points i)) (λ i. b.points i ≡ []) (λ i. decides-empty (b.points i)) (b.current p.worker)
      and decides-number b w p.kind p.number

  decides-answer : (b : Book ℕ) (w : ℕ) (a : Option (Answer ℕ)) → Decides (answer_fits_b b w a) (AnswerFits b w a)
  decides-answer b w None = decides-true
  decides-answer b w (Some a) = Decides-eqb a.worker w and decides-some (b.current w)

  decides-fits : (b : Book ℕ) (m : Told ℕ) → Decides (fits_b strict b m) (Fits strict b m)
  decides-fits b (Told.refused n) = decides-true
  decides-fits b (Told.placed w a) = decides-none (b.current w)
  decides-fits b (Told.idled w turn) = decides-none (b.current w)
  decides-fits b (Told.stepped w turn p a) =
      Decides-like (fits_b strict b (Told.stepped w turn p a)) (λ h. (h.0.0, h.0.1, h.1)) (λ h. ((h.0, h.1), h.2))
      (decides-some (b.current w) and decides-point (after_step b w) w p and decides-answer (after_point (after_step b w) p) w a)
  decides-fits b Told.misfit = (λ e. grind arith, λ h. absurd h)

  decides-from : (b : Book ℕ) (t : List (Event ℕ)) → Decides (well_from_b strict b t) (WellFrom strict b t)
  decides-from b [] = decides-true
  decides-from b (e ∷ t) = decides-fits b (told e) and decides-from (after_told b (told e)) t

  pub decides-well-told : (t : List (Event ℕ)) → Decides (well_told_b strict t) (WellTold strict t)
  decides-well-told t = decides-from blank t

-- Order by points

module _ (b : Book ℕ) where
  -- a test of the order's one point, if it has exactly one
  decides-pointed : (f : Point → Bool) (P : Point → Type 0) → ((p : Point) → Decides (f p) (P p)) → (i : ℕ) → Decides (if_some f (the_one (b.points i))) ((p : Point) → b.points i ≡ p ∷ [] → P p)
  decides-pointed f P each i =
      Decides-like (if_some f (the_one (b.points i))) (λ h p e. h p (only-the-one (b.points i) p e)) (λ h p e. h p (the-one-only (b.points i) p e))
      (decides-if-some f P each (the_one (b.points i)))

  decides-answered-by : (strict : Bool) (i : ℕ) (a : Answer ℕ) → Decides (some_passes (agree_b strict b i a) (the_one (b.points i))) (AnsweredBy strict b i a)
  decides-answered-by strict i a =
      Decides-like (some_passes (agree_b strict b i a) (the_one (b.points i)))
      (λ h. let g = h.2 in record {
        point = h.0;
        only = the-one-only (b.points i) h.0 h.1;
        own_number = g.0.0.0.0.0.0;
        own_placing = g.0.0.0.0.0.1;
        own_point = g.0.0.0.0.1;
        own_kind = g.0.0.0.1;
        above_placing = g.0.0.1;
        below_answer = g.0.1;
        served = g.1;
      })
      (λ h. (h.point, only-the-one (b.points i) h.point h.only, ((((((h.own_number, h.own_placing), h.own_point), h.own_kind), h.above_placing), h.below_answer), h.served)))
      (decides-some-passes (agree_b strict b i a) _
      (λ p. Decides-eqb a.number (b.ended i)
      and Decides-eqb a.placing (b.placing i)
      and Decides-eqb a.point p.number
      and decides-kind a.kind p.kind
      and Decides-ltb (b.placing i) p.number
      and decides_below strict p.number a.number
      and decides-option a.element (element_from (b.asked i) (plain b (p.number - 1))))
      (the_one (b.points i)))

  decides-answered : (strict : Bool) (i : ℕ) → Decides (answered_b strict b i) ((a : Answer ℕ) → b.answer i ≡ Some a → AnsweredBy strict b i a)
  decides-answered strict i = decides-if-some _ (AnsweredBy strict b i) (decides-answered-by strict i) (b.answer i)

  decides-apart : (i j : ℕ) → Decides (apart_b b i j) ((p : Point) → b.points i ≡ p ∷ [] → (q : Point) → b.points j ≡ q ∷ [] → p.number ≡ q.number → i ≡ j)
  decides-apart i j =
      decides-pointed _ _ (λ p. decides-pointed _ _ (λ q. decides-implies (eqb p.number q.number) (eqb i j) (Decides-eqb p.number q.number) (Decides-eqb i j)) j) i

  decides_above : (i : ℕ) → Decides (above_b b i) ((p : Point) → b.points i ≡ p ∷ [] → b.placing i < p.number)
  decides_above i = decides-pointed _ _ (λ p. Decides-ltb (b.placing i) p.number) i

  decides-kinds : (i : ℕ) → Decides (kind_b b i) ((p : Point) → b.points i ≡ p ∷ [] → p.kind ≡ kind_from (b.asked i) (plain b (p.number - 1)))
  decides-kinds i = decides-pointed _ _ (λ p. decides-kind p.kind (kind_from (b.asked i) (plain b (p.number - 1)))) i

  pub decides-in-order : (strict : Bool) (left : List ℕ) → Decides (in_order_b strict b left) (InOrder strict b left)
  decides-in-order strict left =
      Decides-like (in_order_b strict b left)
      (λ h. record {
        answered = λ i a l e. h.0.0.0.0.0 i l a e;
        single = h.0.0.0.0.1;
        apart = λ i j p q l k e f n. h.0.0.0.1 i l j k p e q f n;
        above = λ i p l e. h.0.0.1 i l p e;
        kinds = λ i p l e. h.0.1 i l p e;
        remains = h.1;
      })
      (λ h. (((((λ i l a e. h.answered i a l e, h.single), λ i l j k p e q f n. h.apart i j p q l k e f n), λ i l p e. h.above i p l e), λ i l p e. h.kinds i p l e), h.remains))
      (decides-all _ _ (decides-answered strict) b.count
      and decides-all _ _ (λ i. decides-leb (length (b.points i)) 1) b.count
      and decides-all _ _ (λ i. decides-all _ _ (decides-apart i) b.count) b.count
      and decides-all _ _ decides_above b.count
      and decides-all _ _ decides-kinds b.count
      and bytes_eq-Decides left (plain b b.steps))

-- Limits

module _ (count : ℕ → Told ℕ → ℕ) (limit : ℕ) where
  decides-placed : (m : Told ℕ) (t : List (Event ℕ)) → Decides (after_placed_b count limit m t) (after_placed count limit m t)
  decides-placed (Told.refused n) t = decides-true
  decides-placed (Told.placed w a) t = decides-leb (until_answer (count w) w t) limit
  decides-placed (Told.idled v turn) t = decides-true
  decides-placed (Told.stepped v turn p a) t = decides-true
  decides-placed Told.misfit t = decides-true

  pub decides-within : (t : List (Event ℕ)) → Decides (within_limit_b count limit t) (WithinLimit count limit t)
  decides-within [] = decides-true
  decides-within (e ∷ t) = decides-placed (told e) t and decides-within t

pub decides-own-steps : (n : ℕ) (t : List (Event ℕ)) → Decides (own_step_limit_b n t) (OwnStepLimit n t)
decides-own-steps n t = decides-within step_in (allowance n) t
