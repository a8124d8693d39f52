-- The plain list while points are added: one at a number above all others changes nothing below it, and an empty fetch
-- may be put in wherever the list was empty and no point stands.
use Rattle.std.proofs.Common.{◌≡◌, ℕ, zero, suc, ◌-◌, ◌<◌, ◌≤◌, ◌⊎◌, [], Some, None, Option, sym, refl, ◌∙◌, subst, inl, inr, arith}
use Rattle.std.proofs.lemmas.Bool.{cases_order}
use Rattle.promise.specs.Events.{Asked}
use Rattle.promise.specs.Maps.{put}
use Rattle.promise.specs.PlainList.{fed, feed, plain_by}
use Rattle.promise.proofs.MapLaws.{put_same, put_other}

less_one : (n : ℕ) → suc n - 1 ≡ n
less_one n = omega arith

module _ {T : Type 0} (asked : ℕ → Asked T) (pointed : ℕ → Option ℕ) where
  -- a point changes nothing below its number
  pub plain-below : (n : ℕ) (v : Option ℕ) (q : ℕ) → q < n → plain_by asked (put pointed n v) q ≡ plain_by asked pointed q
  plain-below n v zero l = refl
  plain-below n v (suc q) l = rw (put_other pointed n v (suc q) (omega arith), plain-below n v q (omega arith)) refl

  -- a number without a point feeds nothing
  pub plain-free : (n : ℕ) → 1 ≤ n → pointed n ≡ None → plain_by asked pointed n ≡ plain_by asked pointed (n - 1)
  plain-free zero l e = refl
  plain-free (suc n) l e = rw (less_one n, e) refl

  -- at its own number an order is fed to the list before it
  pub plain_at : (n i : ℕ) → 1 ≤ n → plain_by asked (put pointed n (Some i)) n ≡ fed (asked i) (plain_by asked pointed (n - 1))
  plain_at zero i l = grind arith
  plain_at (suc n) i l = rw (less_one n, put_same pointed (suc n) (Some i), plain-below (suc n) (Some i) n (omega arith)) refl

  -- an empty fetch, put in where the list was empty and no point stood, changes nothing anywhere
  pub plain-insert : (n i : ℕ) → 1 ≤ n → pointed n ≡ None → plain_by asked pointed (n - 1) ≡ [] → asked i ≡ Asked.fetch → (q : ℕ) → plain_by asked (put pointed n (Some i)) q ≡ plain_by asked pointed q
  plain-insert n i l free empty a zero = refl
  plain-insert n i l free empty a (suc q) = go (cases_order (suc q) n) (plain-insert n i l free empty a q)
    where
      go : (suc q ≡ n) ⊎ ((suc q < n) ⊎ (n < suc q)) → plain_by asked (put pointed n (Some i)) q ≡ plain_by asked pointed q → plain_by asked (put pointed n (Some i)) (suc q) ≡ plain_by asked pointed (suc q)
      go (inl e) h =
          let same : plain_by asked (put pointed n (Some i)) n ≡ plain_by asked pointed n = plain_at n i l ∙ rw (a, empty) (sym (plain-free n l free ∙ empty)) in
          subst (λ (k : ℕ). plain_by asked (put pointed n (Some i)) k ≡ plain_by asked pointed k) (sym e) same
      go (inr (inl b)) h = plain-below n (Some i) (suc q) b
      go (inr (inr b)) h = rw (put_other pointed n (Some i) (suc q) (omega arith), h) refl

-- an order that has no point may ask anything
pub plain-asked : {T : Type 0} (asked : ℕ → Asked T) (pointed : ℕ → Option ℕ) (c : ℕ) (a : Asked T) → ((q i : ℕ) → pointed q ≡ Some i → i < c) → (q : ℕ) → plain_by (put asked c a) pointed q ≡ plain_by asked pointed q
plain-asked asked pointed c a below zero = refl
plain-asked asked pointed c a below (suc q) = go (pointed (suc q)) refl (plain-asked asked pointed c a below q)
  where
    go : (o : Option ℕ) → pointed (suc q) ≡ o → plain_by (put asked c a) pointed q ≡ plain_by asked pointed q → feed (put asked c a) o (plain_by (put asked c a) pointed q) ≡ feed asked o (plain_by asked pointed q)
    go None e h = h
    go (Some i) e h = let l = below (suc q) i e in rw (put_other asked c a i (omega arith), h) refl
