-- A step that sees the queue empty keeps the invariant.
use Rattle.std.proofs.Common.{◌≡◌, ℕ, Bool, ◌⊎◌, [], Some, sym, ◌∙◌, inl, inr, arith}
use Rattle.std.proofs.lemmas.Bool.{cases_eq}
use Rattle.promise.specs.AbstractLine.{Line, marking}
use Rattle.promise.specs.Books.{Book}
use Rattle.promise.proofs.LineState.{MarkKnown, Known, Fresh}
use Rattle.promise.proofs.MapLaws.{put_other, put-tells}
use Rattle.promise.proofs.PlainLaws.{plain-free}

module _ {T : Type 0} (strict : Bool) (b : Book T) (s : Line T) (k : Known strict b s) (w : ℕ) (f : Fresh b s w) (empty : s.queue ≡ []) where
  new-mark : MarkKnown b (marking s w) w b.steps
  new-mark =
      record {
        low = f.low;
        high = omega arith;
        free = f.free;
        empty = sym (plain-free b.asked b.pointed b.steps f.low f.free) ∙ sym k.queue ∙ empty;
        own = f.own;
        since = λ o e. let x = k.busy w o e in let l = f.later x.index x.below in omega (arith, x.placing);
      }

  mark-marked : (v e : ℕ) → (marking s w).saw v ≡ Some e → MarkKnown b (marking s w) v e
  mark-marked v e h = go (cases_eq v w)
    where
      go : (v ≡ w) ⊎ (v ≡ w → ⊥) → MarkKnown b (marking s w) v e
      go (inl q) =
          let same : b.steps ≡ e = grind (arith, put-tells, k.steps) in
          rw (q, ← same) new-mark
      go (inr n) =
          let x = k.mark v e (sym (put_other s.saw w _ v n) ∙ h) in
          record { low = x.low; high = x.high; free = x.free; empty = x.empty; own = x.own; since = x.since }

  pub known-marked : Known strict b (marking s w)
  known-marked =
      record {
        steps = k.steps;
        idle = k.idle;
        busy = k.busy;
        mark = mark-marked;
        point = k.point;
        owner = k.owner;
        single = k.single;
        placed = k.placed;
        answered = k.answered;
        queue = k.queue;
      }
