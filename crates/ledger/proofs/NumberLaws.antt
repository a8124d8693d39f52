-- Numbers and coordinates are read as they were written, and have no tab and no byte 10.
use Rattle.std.proofs.Common.{◌≡◌, ℕ, suc, ◌+◌, ◌-◌, ◌*◌, ◌/◌, ◌%◌, ◌^◌, ◌<◌, ◌≤◌, true, false, ◌&&◌, eqb, leb, List, [], ◌∷◌, ◌++◌, length, ℤ, pos, negsuc, Some, None, decimal, Option, refl, ap, ◌∙◌, inl, inr, arith}
use Rattle.std.proofs.lemmas.Fmt.{decimal_by_steps, decimal_nonempty, length-decimal-le}
use Rattle.std.proofs.lemmas.Bool.{le-leb, ne_eqb, or_parts, or_from, and_parts, leb-true, cases_Bool}
use Rattle.std.proofs.lemmas.Bool.Decides.{nat_tests}
use Rattle.std.specs.Fmt.{signed_decimal}
use Rattle.vocabulary.specs.Hits.{in_bounds}
use Rattle.texts.specs.Cuts.{has}
use Rattle.texts.specs.Numbers.{value_from, number_of, within, signed_by, coordinate_of}
use Rattle.ledger.proofs.CutLaws.{has-append}

-- digits are bytes from 48 to 57
pub decimal-lacks : (s n : ℕ) → s < 48 → n < 2 ^ 64 → has s (decimal n) ≡ false
decimal-lacks s n low fits =
    decimal_by_steps (λ _ ds. has s ds ≡ false)
    (λ n one. or_from (eqb (48 + n) s) false (ne_eqb (48 + n) s (λ e. omega arith)) refl)
    (λ n ds more none. has-append s ds ((48 + n % 10) ∷ []) none (or_from (eqb (48 + n % 10) s) false (ne_eqb (48 + n % 10) s (λ e. omega arith)) refl))
    n fits

-- the size of a coordinate within bounds
pos-bound : (n : ℕ) → in_bounds (pos n) ≡ true → n ≤ 2000000
pos-bound n b = leb-true n 2000000 b

neg-bound : (n : ℕ) → in_bounds (negsuc n) ≡ true → n ≤ 1999999
neg-bound n b = leb-true n 1999999 (and_parts (leb n 1999999) true b).0

pub signed-lacks : (s : ℕ) (c : ℤ) → s < 45 → in_bounds c ≡ true → has s (signed_decimal c) ≡ false
signed-lacks s (pos n) low b = let l = pos-bound n b in decimal-lacks s n (omega arith) (omega arith)
signed-lacks s (negsuc n) low b =
    let l = neg-bound n b in
    or_from (eqb 45 s) (has s (decimal (suc n))) (ne_eqb 45 s (λ e. omega arith)) (decimal-lacks s (suc n) (omega arith) (omega arith))

-- one digit more
digit-back : (m d : ℕ) → d < 10 → value_from m ((48 + d) ∷ []) ≡ Some (m * 10 + d)
digit-back m d small = grind (arith, nat_tests)

value-push : (m n d : ℕ) (ds : List ℕ) → value_from m ds ≡ Some n → d < 10 → value_from m (ds ++ (48 + d) ∷ []) ≡ Some (n * 10 + d)
value-push m n d [] e small = let k : m ≡ n = cc in digit-back m d small ∙ ap (λ i. Some (i * 10 + d)) k
value-push m n d (x ∷ xs) e small = elim (cases_Bool (leb 48 x && leb x 57)) [
  | inl t ↦ rw t (value-push (m * 10 + (x - 48)) n d xs (rw t at e) small)
  | inr f ↦ let none : ◌≡◌ {A = Option ℕ} None (Some n) = rw f at e in cc
]

value-back : (n : ℕ) → n < 2 ^ 64 → value_from 0 (decimal n) ≡ Some n
value-back n fits =
    decimal_by_steps (λ n ds. value_from 0 ds ≡ Some n)
    (λ n one. digit-back 0 n one ∙ ap Some (omega arith))
    (λ n ds more e. value-push 0 (n / 10) (n % 10) ds e (omega arith) ∙ ap Some (omega arith))
    n fits

pub number-back : (n : ℕ) → n < 10 ^ 10 → number_of (decimal n) ≡ Some n
number-back n fits =
    let some = le-leb 1 (length (decimal n)) (decimal_nonempty n (omega arith)) in
    let few = le-leb (length (decimal n)) 10 (length-decimal-le 10 n (omega arith) fits (omega arith)) in
    rw (some, few) (value-back n (omega arith))

-- a number from low to high
pub within-back : (low high n : ℕ) → low ≤ n → n ≤ high → n < 10 ^ 10 → within low high (number_of (decimal n)) ≡ Some n
within-back low high n above below fits = rw (number-back n fits, le-leb low n above, le-leb n high below) refl

plain_back : (n : ℕ) (ds : List ℕ) → has 45 ds ≡ false → number_of ds ≡ Some n → coordinate_of ds ≡ signed_by false (Some n)
plain_back n [] none e = cc
plain_back n (x ∷ xs) none e = rw (or_parts (eqb x 45) (has 45 xs) none).0 (ap (signed_by false) e)

pub coordinate-back : (c : ℤ) → in_bounds c ≡ true → coordinate_of (signed_decimal c) ≡ Some c
coordinate-back (pos n) b =
    let l = pos-bound n b in
    plain_back n (decimal n) (decimal-lacks 45 n (omega arith) (omega arith)) (number-back n (omega arith)) ∙ rw (le-leb n 2000000 l) refl
coordinate-back (negsuc n) b =
    let l = neg-bound n b in
    rw (number-back (suc n) (omega arith), le-leb (suc n) 2000000 (omega arith)) refl
