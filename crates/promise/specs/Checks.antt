-- Tests of what is promised, for elements that are numbers. Each computes, and is true exactly where the statement of the
-- same name holds: `fits_b` where `Fits` does.
use Rattle.std.specs.Prelude.{ℕ, zero, suc, ◌-◌, ◌*◌, Bool, true, false, not, ◌&&◌, ◌||◌, List, [], ◌∷◌, length, is_some, Some, None, Option, ◌==◌, nat_le, nat_lt}
use Rattle.std.specs.Str.{bytes_eq}
use Rattle.vocabulary.specs.Crews.{allowance}
use Rattle.vocabulary.specs.declared.kind.Kind.{Kind}
use Rattle.promise.specs.Books.{Book, blank, after_step, after_point, after_told}
use Rattle.promise.specs.Events.{Event, Point, Answer, Told, told}
use Rattle.promise.specs.Limits.{step_in, turn_in, until_answer}
use Rattle.promise.specs.PlainList.{kind_from, element_from, plain}

-- the same kind
abbrev pub kind_number : Kind → ℕ
kind_number Kind.Post = 0
kind_number Kind.Fetch = 1
kind_number Kind.None = 2

abbrev pub same_kind : Kind → Kind → Bool
same_kind a b = kind_number a == kind_number b

-- the same number, or twice none
abbrev pub same_option : Option ℕ → Option ℕ → Bool
same_option None None = true
same_option None (Some b) = false
same_option (Some a) None = false
same_option (Some a) (Some b) = a == b

-- what there is passes the test; nothing passes
abbrev pub if_some : {X : Type 0} → (X → Bool) → Option X → Bool
if_some f None = true
if_some f (Some x) = f x

-- there is something, and it passes the test
abbrev pub some_passes : {X : Type 0} → (X → Bool) → Option X → Bool
some_passes f None = false
some_passes f (Some x) = f x

-- the list's one element, or none where it has not exactly one
abbrev pub the_one : {X : Type 0} → List X → Option X
the_one [] = None
the_one (x ∷ []) = Some x
the_one (x ∷ y ∷ xs) = None

-- the list has no element
abbrev pub is_empty : {X : Type 0} → List X → Bool
is_empty [] = true
is_empty (x ∷ xs) = false

-- every number below n passes the test
abbrev pub all_below : (ℕ → Bool) → ℕ → Bool
all_below f zero = true
all_below f (suc n) = f n && all_below f n

-- Well told

abbrev pub below_b : Bool → ℕ → ℕ → Bool
below_b true a b = nat_lt a b
below_b false a b = nat_le a b

abbrev pub busy_b : Book ℕ → ℕ → Bool
busy_b b w = is_some (b.current w)

abbrev pub earlier_step_b : Bool → Book ℕ → ℕ → ℕ → Bool
earlier_step_b strict b w number = same_option (b.stepper number) (Some w) && below_b strict number b.steps && if_some (λ i. nat_lt (b.placing i) number) (b.current w)

abbrev pub number_fits_b : Bool → Book ℕ → ℕ → Kind → ℕ → Bool
number_fits_b strict b w Kind.Post number = number == b.steps
number_fits_b strict b w Kind.Fetch number = number == b.steps
number_fits_b strict b w Kind.None number = earlier_step_b strict b w number

abbrev pub point_fits_b : Bool → Book ℕ → ℕ → Option Point → Bool
point_fits_b strict b w None = true
point_fits_b strict b w (Some p) = some_passes (λ i. is_empty (b.points i)) (b.current p.worker) && number_fits_b strict b w p.kind p.number

abbrev pub answer_fits_b : Book ℕ → ℕ → Option (Answer ℕ) → Bool
answer_fits_b b w None = true
answer_fits_b b w (Some a) = a.worker == w && busy_b b w

abbrev pub fits_b : Bool → Book ℕ → Told ℕ → Bool
fits_b strict b (Told.refused n) = true
fits_b strict b (Told.placed w a) = not (busy_b b w)
fits_b strict b (Told.idled w turn) = not (busy_b b w)
fits_b strict b (Told.stepped w turn p a) = busy_b b w && point_fits_b strict (after_step b w) w p && answer_fits_b (after_point (after_step b w) p) w a
fits_b strict b Told.misfit = false

abbrev pub well_from_b : Bool → Book ℕ → List (Event ℕ) → Bool
well_from_b strict b [] = true
well_from_b strict b (e ∷ t) = fits_b strict b (told e) && well_from_b strict (after_told b (told e)) t

abbrev pub well_told_b : Bool → List (Event ℕ) → Bool
well_told_b strict t = well_from_b strict blank t

-- Order by points

-- the point p and the answer a of the order i agree with the book
abbrev pub agree_b : Bool → Book ℕ → ℕ → Answer ℕ → Point → Bool
agree_b strict b i a p =
    (a.number == b.ended i)
    && a.placing == b.placing i
    && a.point == p.number
    && same_kind a.kind p.kind
    && nat_lt (b.placing i) p.number
    && below_b strict p.number a.number
    && same_option a.element (element_from (b.asked i) (plain b (p.number - 1)))

-- the order i, if it was answered, has one point that agrees
abbrev pub answered_b : Bool → Book ℕ → ℕ → Bool
answered_b strict b i = if_some (λ a. some_passes (agree_b strict b i a) (the_one (b.points i))) (b.answer i)

-- the order i has at most one point
abbrev pub single_b : Book ℕ → ℕ → Bool
single_b b i = nat_le (length (b.points i)) 1

-- the orders i and j, if each has one point, share no number unless they are the same order
abbrev pub apart_b : Book ℕ → ℕ → ℕ → Bool
apart_b b i j = if_some (λ p. if_some (λ q. not (p.number == q.number) || i == j) (the_one (b.points j))) (the_one (b.points i))

-- the point of the order i, if it has one, lies above its placing
abbrev pub above_b : Book ℕ → ℕ → Bool
above_b b i = if_some (λ p. nat_lt (b.placing i) p.number) (the_one (b.points i))

-- the order i, if it has one point, has the kind that the plain list gives
abbrev pub kind_b : Book ℕ → ℕ → Bool
kind_b b i = if_some (λ p. same_kind p.kind (kind_from (b.asked i) (plain b (p.number - 1)))) (the_one (b.points i))

abbrev pub in_order_b : Bool → Book ℕ → List ℕ → Bool
in_order_b strict b left =
    all_below (answered_b strict b) b.count
    && all_below (single_b b) b.count
    && all_below (λ i. all_below (apart_b b i) b.count) b.count
    && all_below (above_b b) b.count
    && all_below (kind_b b) b.count
    && bytes_eq left (plain b b.steps)

-- Limits

abbrev pub after_placed_b : (ℕ → Told ℕ → ℕ) → ℕ → Told ℕ → List (Event ℕ) → Bool
after_placed_b count limit (Told.refused n) t = true
after_placed_b count limit (Told.placed w a) t = nat_le (until_answer (count w) w t) limit
after_placed_b count limit (Told.idled v turn) t = true
after_placed_b count limit (Told.stepped v turn p a) t = true
after_placed_b count limit Told.misfit t = true

abbrev pub within_limit_b : (ℕ → Told ℕ → ℕ) → ℕ → List (Event ℕ) → Bool
within_limit_b count limit [] = true
within_limit_b count limit (e ∷ t) = after_placed_b count limit (told e) t && within_limit_b count limit t

abbrev pub own_step_limit_b : ℕ → List (Event ℕ) → Bool
own_step_limit_b n t = within_limit_b step_in (allowance n) t

-- no more turns than the least window, n, allows, whoever names them
abbrev pub turn_limit_b : ℕ → List (Event ℕ) → Bool
turn_limit_b n t = within_limit_b (λ w. turn_in) (allowance n * n) t
