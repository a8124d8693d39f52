-- The workers that are kept of a line, and that they are judged as the line's own numbers are.
use Rattle.std.proofs.Common.{◌≡◌, ℕ, ◌<◌, ◌≤◌, true, false, leb, ltb, List, [], ◌∷◌, map, length, Option, Some, None, cond, sym, refl, ap, ◌∙◌, inl, inr, arith}
use Rattle.std.proofs.lemmas.List.{take_all, length-take-le, length-map}
use Rattle.std.specs.List.{position_or_len}
use Rattle.std.specs.Option.{unwrap_or}
use Rattle.texts.proofs.CutLaws.{first-or-length}
use Rattle.std.proofs.lemmas.List.Recursion.{is_position_or_len}
use Rattle.std.proofs.lemmas.Bool.{and_parts, cases_Bool, cases_lt, ltb-true, lt-ltb, ne_eqb}
use Rattle.std.proofs.lemmas.Bool.Decides.{nat_tests}
use Rattle.pickers.specs.Frames.{all_below}
use Rattle.texts.specs.Cards.{first_foreign, frame_of}
use Rattle.texts.specs.Workers.{kept_all, byte_of}

-- the first worker that is not below n stands at the first place where that test passes
pub foreign-place : (n : ℕ) (ws : List ℕ) (o : Option ℕ) → o ≡ cond (ltb (position_or_len (λ w. leb n w) ws) (length ws)) (Some (position_or_len (λ w. leb n w) ws)) None → unwrap_or o (length ws) ≡ first_foreign n ws
foreign-place n ws o e = first-or-length (λ w. leb n w) ws o e ∙ sym (is_position_or_len (first_foreign n) (λ w. leb n w) refl (λ y ys. grind (arith, nat_tests)) ws)

-- a worker's byte is judged as the worker's own number is, for any n that a byte can be
below-bytes : (n : ℕ) (ws : List ℕ) → n ≤ 255 → all_below n (map byte_of ws) ≡ all_below n ws
below-bytes n [] h = refl
below-bytes n (w ∷ ws) h = let r = below-bytes n ws h in grind (arith, nat_tests)

foreign-bytes : (n : ℕ) (ws : List ℕ) → n ≤ 255 → first_foreign n (map byte_of ws) ≡ first_foreign n ws
foreign-bytes n [] h = refl
foreign-bytes n (w ∷ ws) h = let r = foreign-bytes n ws h in grind (arith, nat_tests)

-- workers below n are their own bytes
own-bytes : (n : ℕ) (ws : List ℕ) → n ≤ 255 → all_below n ws ≡ true → map byte_of ws ≡ ws
own-bytes n [] h e = refl
own-bytes n (w ∷ ws) h e =
    let p = and_parts (ltb w n) (all_below n ws) e in
    let r = own-bytes n ws h p.1 in
    let l = ltb-true w n p.0 in
    let s : byte_of w ≡ w = omega arith in
    rw (s, r) refl

-- a row of workers is judged as what is kept of it
module _ (n : ℕ) (ws : List ℕ) (few : n ≤ 255) where
  kept_whole : length ws ≤ 64 → kept_all ws ≡ map byte_of ws
  kept_whole l = take_all 65 (map byte_of ws) (omega (arith, length-map ws byte_of))

  judged-below : all_below n ws ≡ true → frame_of n (map byte_of ws) ≡ frame_of n ws
  judged-below e = ap (frame_of n) (own-bytes n ws few e)

  judged-foreign : length ws ≤ 64 → all_below n ws ≡ false → frame_of n (map byte_of ws) ≡ frame_of n ws
  judged-foreign l e = rw (length-map ws byte_of, below-bytes n ws few, foreign-bytes n ws few, e) refl

  judged-long : 64 < length ws → frame_of n (kept_all ws) ≡ frame_of n ws
  judged-long l =
      let full : length (kept_all ws) ≡ 65 = length-take-le 65 (map byte_of ws) (omega (arith, length-map ws byte_of)) in
      rw (full, ne_eqb (length ws) 0 (omega arith), lt-ltb 64 (length ws) l) refl

  pub frame-kept : frame_of n (kept_all ws) ≡ frame_of n ws
  frame-kept = elim (cases_lt 64 (length ws)) [
    | inl l ↦ judged-long l
    | inr l ↦ ap (frame_of n) (kept_whole l) ∙ elim (cases_Bool (all_below n ws)) [ inl t ↦ judged-below t | inr f ↦ judged-foreign l f ]
  ]
