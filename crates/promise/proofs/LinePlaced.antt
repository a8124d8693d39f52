-- The invariant holds of the empty line, and a placing and a counted step keep it.
use Rattle.std.proofs.Common.{◌≡◌, ℕ, ◌+◌, ◌-◌, ◌<◌, Bool, ◌≢◌, ◌⊎◌, [], Some, None, Option, sym, refl, ap, ◌∙◌, inl, inr, arith}
use Rattle.std.proofs.lemmas.Bool.{cases_eq, cases_lt}
use Rattle.promise.specs.AbstractLine.{Open, Line, empty_line, placing, counting}
use Rattle.promise.specs.Books.{Book, blank, after_placing, after_step}
use Rattle.promise.specs.Events.{Asked}
use Rattle.promise.specs.PlainList.{plain}
use Rattle.promise.proofs.LineMoved.{SameOrder, answered-moved, point-moved, paired-moved}
use Rattle.promise.proofs.LineState.{Paired, MarkKnown, Known, Fresh}
use Rattle.promise.proofs.MapLaws.{put_same, put_other, put-tells}
use Rattle.promise.proofs.PlainLaws.{plain-asked, plain-free}

pub known-empty : {T : Type 0} (strict : Bool) → Known {T = T} strict blank empty_line
known-empty strict =
    record {
      steps = refl;
      idle = λ w e. refl;
      busy = λ w o e. grind arith;
      mark = λ w e h. grind arith;
      point = λ i p l e. grind arith;
      owner = λ q i e. grind arith;
      single = λ i l. omega arith;
      placed = λ i l. omega arith;
      answered = λ i a l e. grind arith;
      queue = refl;
    }

module _ {T : Type 0} (strict : Bool) (b : Book T) (s : Line T) (k : Known strict b s) where
  -- no point lies above the steps counted
  pub above-free : (q : ℕ) → b.steps < q → b.pointed q ≡ None
  above-free q l = go (b.pointed q) refl
    where
      go : (o : Option ℕ) → b.pointed q ≡ o → o ≡ None
      go None e = refl
      go (Some i) e =
          let x = k.owner q i e in
          let y = k.point i x.point x.below x.only in
          let n = x.number in
          let h = y.high in
          grind arith

  module _ (w : ℕ) (a : Asked T) (free : s.order w ≡ None) where
    old-order : (i : ℕ) → i < b.count → SameOrder b (after_placing b w a) i
    old-order i l =
        let n : i ≢ b.count = omega arith in
        record {
          worker = put_other b.worker b.count w i n;
          asked = put_other b.asked b.count a i n;
          placing = put_other b.placing b.count b.steps i n;
          points = put_other b.points b.count [] i n;
          plain = λ p e. plain-asked b.asked b.pointed b.count a (λ q j h. (k.owner q j h).below) (p.number - 1);
        }

    new-paired : Paired (after_placing b w a) w (record { asked = a; placing = s.steps; given = None })
    new-paired =
        record {
          index = b.count;
          current = put_same b.current w (Some b.count);
          below = omega arith;
          mine = put_same b.worker b.count w;
          asked = put_same b.asked b.count a;
          placing = put_same b.placing b.count b.steps ∙ k.steps;
          unanswered = put_same b.answer b.count None;
          points = put_same b.points b.count [];
        }

    busy-placed : (v : ℕ) (o : Open T) → (placing s w a).order v ≡ Some o → Paired (after_placing b w a) v o
    busy-placed v o e = go (cases_eq v w)
      where
        go : (v ≡ w) ⊎ (v ≡ w → ⊥) → Paired (after_placing b w a) v o
        go (inl h) =
            let same : record { asked = a; placing = s.steps; given = None } ≡ o = grind (arith, put-tells) in
            rw (h, ← same) new-paired
        go (inr n) =
            let x = k.busy v o (sym (put_other s.order w _ v n) ∙ e) in
            let m : x.index ≢ b.count = omega (arith, x.below) in
            paired-moved b (after_placing b w a) v o x (old-order x.index x.below) (put_other b.current w (Some b.count) v n) (omega arith) (put_other b.answer b.count None x.index m)

    mark-placed : (v e : ℕ) → (placing s w a).saw v ≡ Some e → MarkKnown (after_placing b w a) (placing s w a) v e
    mark-placed v e h =
        let n : v ≢ w = grind (arith, put-tells) in
        let x = k.mark v e (sym (put_other s.saw w None v n) ∙ h) in
        record {
          low = x.low;
          high = x.high;
          free = x.free;
          empty = plain-asked b.asked b.pointed b.count a (λ q j g. (k.owner q j g).below) (e - 1) ∙ x.empty;
          own = x.own;
          since = λ o g. x.since o (sym (put_other s.order w _ v n) ∙ g);
        }

    old-or-new : (i : ℕ) → i < b.count + 1 → (i < b.count) ⊎ (i ≡ b.count)
    old-or-new i l = elim (cases_lt i b.count) [ inl h ↦ inl h | inr h ↦ inr (omega arith) ]

    pub known-placed : Known strict (after_placing b w a) (placing s w a)
    known-placed =
        record {
          steps = k.steps;
          idle = λ v e. grind (arith, put-tells, k.idle v);
          busy = busy-placed;
          mark = mark-placed;
          point = λ i p l e. elim (old-or-new i l) [
            | inl h ↦ (let o = sym (put_other b.points b.count [] i (omega arith)) ∙ e in point-moved b (after_placing b w a) i (old-order i h) p o (omega arith) (k.point i p h o).own (k.point i p h o))
            | inr h ↦ grind (arith, put-tells)
          ];
          owner = λ q i e. let x = k.owner q i e in record {
            below = omega (arith, x.below);
            point = x.point;
            only = put_other b.points b.count [] i (omega (arith, x.below)) ∙ x.only;
            number = x.number;
          };
          single = λ i l. elim (old-or-new i l) [ inl h ↦ rw (put_other b.points b.count [] i (omega arith)) (k.single i h) | inr h ↦ rw (h, put_same b.points b.count []) (omega arith) ];
          placed = λ i l. elim (old-or-new i l) [ inl h ↦ rw (put_other b.placing b.count b.steps i (omega arith)) (k.placed i h) | inr h ↦ rw (h, put_same b.placing b.count b.steps) (omega arith) ];
          answered = λ i x l e. elim (old-or-new i l) [
            | inl h ↦ answered-moved b (after_placing b w a) i (old-order i h) strict x refl (k.answered i x h (sym (put_other b.answer b.count None i (omega arith)) ∙ e))
            | inr h ↦ grind (arith, put-tells)
          ];
          queue = k.queue ∙ sym (plain-asked b.asked b.pointed b.count a (λ q j h. (k.owner q j h).below) b.steps);
        }

  module _ (w : ℕ) where
    same-order : (i : ℕ) → SameOrder b (after_step b w) i
    same-order i = record { worker = refl; asked = refl; placing = refl; points = refl; plain = λ p e. refl }

    pub known-counted : Known strict (after_step b w) (counting s)
    known-counted =
        record {
          steps = ap (λ n. n + 1) k.steps;
          idle = k.idle;
          busy = λ v o e. let x = k.busy v o e in paired-moved b (after_step b w) v o x (same-order x.index) refl (omega arith) refl;
          mark = λ v e h. let x = k.mark v e h in record {
            low = x.low;
            high = omega (arith, x.high);
            free = x.free;
            empty = x.empty;
            own = put_other b.stepper (b.steps + 1) (Some w) e (omega (arith, x.high)) ∙ x.own;
            since = x.since;
          };
          point = λ i p l e. point-moved b (after_step b w) i (same-order i) p e (omega arith) (k.point i p l e).own (k.point i p l e);
          owner = λ q i e. let x = k.owner q i e in record { below = x.below; point = x.point; only = x.only; number = x.number };
          single = k.single;
          placed = λ i l. omega (arith, k.placed i l);
          answered = λ i x l e. answered-moved b (after_step b w) i (same-order i) strict x refl (k.answered i x l e);
          queue =
              let back : b.steps + 1 - 1 ≡ b.steps = omega arith in
              k.queue ∙ sym (plain-free b.asked b.pointed (b.steps + 1) (omega arith) (above-free (b.steps + 1) (omega arith)) ∙ ap (plain b) back);
        }

    pub fresh-counted : Fresh (after_step b w) (counting s) w
    fresh-counted =
        record {
          low = omega arith;
          free = above-free (b.steps + 1) (omega arith);
          own = put_same b.stepper (b.steps + 1) (Some w);
          later = λ i l. omega (arith, k.placed i l);
          marks = λ v e h. let x = k.mark v e h in omega (arith, x.high);
        }
