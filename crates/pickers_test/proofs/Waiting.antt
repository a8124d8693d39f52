-- While a picker is asked for a worker b and names others, the asks so far and the due number of b together do not grow; so b is
-- named within its due number.
use Rattle.std.proofs.Common.{◌≡◌, ℕ, ◌+◌, ◌<◌, ◌≤◌, false, List, [], ◌∷◌, ◌++◌, length, sym, refl, ◌∙◌, subst, arith, ◌==◌}
use Rattle.std.proofs.lemmas.List.{length_push}
use Rattle.std.proofs.lemmas.List.Folds.{list_any-append}
use Rattle.std.proofs.lemmas.Bool.Decides.{nat_tests}
use Rattle.pickers.specs.Frames.{names}
use Rattle.pickers_test.specs.Asking.{Members, Step, Asked, Until}

-- the picker p was asked until it was q, and named other workers than b; the coming ask has the number count
pub record Waiting {S : Type 0} (m : Members S) (p : S) (b count : ℕ) (q : S) : Type 0 where
  pub before : List ℕ
  pub not_before : names before b ≡ false
  pub counted : count ≡ length before + 1
  pub asked : Asked m p before q
  pub same_crew : m.crew q ≡ m.crew p
  pub in_time : count + m.due q b ≤ m.due p b + 1

module _ {S : Type 0} (m : Members S) where
  asked-more : (p : S) (ws : List ℕ) (q : S) (w : ℕ) (next : S) → Asked m p ws q → Step m q w next → Asked m p (ws ++ w ∷ []) next
  asked-more p [] q w next a s = (next, subst (λ (x : S). Step m x w next) (sym a) s, refl)
  asked-more p (v ∷ ws) q w next a s = (a.0, a.1, asked-more a.0 ws q w next a.2 s)

  pub waiting-more : (p : S) (b count : ℕ) (q : S) (w : ℕ) (next : S) → b < m.crew p → Waiting m p b count q → Step m q w next → (w ≡ b → ⊥) → Waiting m p b (count + 1) next
  waiting-more p b count q w next l h s ne =
      record {
        before = h.before ++ w ∷ [];
        not_before = let e = list_any-append (λ v. v == b) h.before (w ∷ []) in grind (arith, nat_tests);
        counted = let e = length_push h.before w in omega arith;
        asked = asked-more p h.before q w next h.asked s;
        same_crew = s.naming.same_crew ∙ h.same_crew;
        in_time = let f = s.fairness.others_fall b (omega arith) (λ e. ne (sym e)) in omega arith;
      }

  pub waiting-all : (p : S) (b count : ℕ) (q : S) (w : ℕ) (next : S) → 1 ≤ m.due q b → Waiting m p b count q → Step m q w next → w ≡ b → Until m p b count next
  waiting-all p b count q w next l h s e =
      record {
        before = h.before;
        not_before = h.not_before;
        counted = h.counted;
        asked = asked-more p h.before q b next h.asked (subst (λ (x : ℕ). Step m q x next) e s);
        in_time = let t = h.in_time in omega arith;
      }
