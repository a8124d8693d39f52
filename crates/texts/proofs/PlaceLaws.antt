-- Where a reader stands, by the place of the next byte 10; and that its place alone tells it.
use Rattle.std.proofs.Common.{◌≡◌, ℕ, suc, ◌+◌, ◌-◌, ◌^◌, ◌<◌, ◌≤◌, true, false, eqb, List, [], ◌∷◌, length, take, drop, sym, ap, ◌∙◌, arith}
use Rattle.std.proofs.lemmas.List.{drop-drop, length-drop}
use Rattle.std.proofs.lemmas.Bool.{lt-ltb, le-ltb}
use Rattle.std.proofs.lemmas.Bool.Decides.{nat_tests}
use Rattle.texts.specs.Cuts.{before, after, has}
use Rattle.std.proofs.Math.Bridge.{le_prop}
use Rattle.std.proofs.Math.Nat.{ℕ_set}
use Rattle.std.proofs.Math.Path.{path_j}
use Rattle.texts.specs.Places.{Place, Standing, all_read}
use Rattle.texts.proofs.CutLaws.{has-is, after_is, before-is, before-le}

-- the next line of what is left of a text
pub line-bytes : (ys zs : List ℕ) (n : ℕ) → ys ≡ zs → n ≡ length (before 10 ys) → take n ys ≡ before 10 zs
line-bytes ys zs n e here = ap (λ k. take k ys) here ∙ sym (before-is 10 ys) ∙ ap (before 10) e

-- a text xs read up to a, with n bytes before the next byte 10
module _ (xs : List ℕ) (a n : ℕ) (here : n ≡ length (before 10 (drop a xs))) where
  pub line-within : a ≤ length xs → a + n ≤ length xs
  line-within l = let b = before-le 10 (drop a xs) in omega (arith, length-drop a xs)

  pub line-ended : a + n < length xs → has 10 (drop a xs) ≡ true
  line-ended l = has-is 10 (drop a xs) ∙ lt-ltb _ _ (omega (arith, length-drop a xs))

  pub line-unended : length xs ≤ a + n → has 10 (drop a xs) ≡ false
  line-unended l = has-is 10 (drop a xs) ∙ le-ltb _ _ (omega (arith, length-drop a xs))

  pub rest-after : drop (a + n + 1) xs ≡ after 10 (drop a xs)
  rest-after =
      let e : a + suc (length (before 10 (drop a xs))) ≡ a + n + 1 = omega arith in
      sym (after_is 10 (drop a xs) ∙ drop-drop (suc (length (before 10 (drop a xs)))) a xs ∙ ap (λ k. drop k xs) e)

-- nothing is left of a text exactly where all of it was read
pub rest-none : (xs : List ℕ) (a : ℕ) → a ≤ length xs → eqb a (length xs) ≡ all_read (drop a xs)
rest-none xs a l = by_cases (drop a xs) (length-drop a xs)
  where
    by_cases : (zs : List ℕ) → length zs ≡ length xs - a → eqb a (length xs) ≡ all_read zs
    by_cases [] e = grind (arith, nat_tests)
    by_cases (z ∷ zs) e = grind (arith, nat_tests)

-- two readers at one place stand the same: what is known of a place has one proof
same-facts : (p : Place) (v w : p.start ≤ p.total) (l m : length p.rest + p.start ≡ p.total) (c d : p.lines ≤ p.start) (b e : p.total < 2 ^ 63) → ◌≡◌ {A = Standing} (record { place = p; within = v; left = l; counted = c; bounded = b }) (record { place = p; within = w; left = m; counted = d; bounded = e })
same-facts p v w l m c d b e = λ i. record { place = p; within = le_prop v w i; left = ℕ_set _ _ l m i; counted = le_prop c d i; bounded = le_prop b e i }

pub standing-is : (a b : Standing) → a.place ≡ b.place → a ≡ b
standing-is a b q = path_j (λ (p : Place) _. (w : p.start ≤ p.total) (m : length p.rest + p.start ≡ p.total) (d : p.lines ≤ p.start) (e : p.total < 2 ^ 63) → ◌≡◌ {A = Standing} a (record { place = p; within = w; left = m; counted = d; bounded = e })) (λ w m d e. same-facts a.place a.within w a.left m a.counted d a.bounded e) q b.within b.left b.counted b.bounded
