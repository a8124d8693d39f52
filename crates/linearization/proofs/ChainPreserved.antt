-- Each change of the linked nodes, of head, tail or a taker keeps the chain.
use Rattle.std.proofs.Common.{◌≡◌, ℕ, ◌+◌, ◌<◌, Bool, true, Some, None, Option, arith}
use Rattle.promise.specs.Maps.{put}
use Rattle.promise.proofs.MapLaws.{put-tells}
use Rattle.linearization.proofs.MemoryInvariant.{Chain}

module _ (successor taker : ℕ → Option ℕ) (head tail : ℕ) (position node_at : ℕ → ℕ) (last : ℕ) (used : ℕ → Bool) (c : Chain successor taker head tail position node_at last used) where
  -- the node x is linked after l, the last one
  pub chain-linked : (l x : ℕ) → successor l ≡ None → position l ≡ last → position tail ≡ last → position x ≡ 0 → used x ≡ true → Chain (put successor l (Some x)) taker head tail (put position x (last + 1)) (put node_at (last + 1) x) (last + 1) used
  chain-linked l x e f h z b =
      let full : 0 < last = omega (arith, c.root, c.short 0) in
      record {
        root = grind (arith, put-tells, c.root);
        short = λ y. grind (arith, put-tells, c.short y);
        inverse = λ y i. grind (arith, put-tells, c.short y, c.inverse y);
        filled = λ j i k. grind (arith, put-tells, c.filled j);
        known = λ y i. grind (arith, put-tells, c.known y);
        next = λ y j i. grind (arith, put-tells, c.next y j);
        end = λ y i n. grind (arith, put-tells, c.end y, c.inverse y, c.inverse l);
        tail_in = grind (arith, put-tells);
        tail_near = grind (arith, put-tells);
        head_in = grind (arith, put-tells);
        head_low = grind (arith, put-tells);
        passed = λ y i j. grind (arith, put-tells, c.passed y);
        taker_low = λ y j i. grind (arith, put-tells, c.taker_low y j i);
      }

  -- tail moves to its successor
  pub chain-tail : (y : ℕ) → successor tail ≡ Some y → Chain successor taker head y position node_at last used
  chain-tail y e =
      let n = c.next tail y e in
      record {
        root = c.root;
        short = c.short;
        inverse = c.inverse;
        filled = c.filled;
        known = c.known;
        next = c.next;
        end = c.end;
        tail_in = omega arith;
        tail_near = omega (arith, c.tail_near);
        head_in = c.head_in;
        head_low = omega (arith, c.head_low);
        passed = c.passed;
        taker_low = λ x k i. let a = c.taker_low x k i in (a.0, a.1, omega arith);
      }

  -- head's node, which is before tail, gets a taker
  pub chain-taken : (k : ℕ) → position head < position tail → Chain successor (put taker head (Some k)) head tail position node_at last used
  chain-taken k l =
      record {
        root = c.root;
        short = c.short;
        inverse = c.inverse;
        filled = c.filled;
        known = c.known;
        next = c.next;
        end = c.end;
        tail_in = c.tail_in;
        tail_near = c.tail_near;
        head_in = c.head_in;
        head_low = c.head_low;
        passed = λ x i j. grind (arith, put-tells, c.passed x i j);
        taker_low = λ x j i. grind (arith, put-tells, c.taker_low x j, c.head_in);
      }

  -- head, which has a taker, moves to its successor
  pub chain_head : (k x : ℕ) → successor head ≡ Some x → taker head ≡ Some k → Chain successor taker x tail position node_at last used
  chain_head k x e t =
      let n = c.next head x e in
      let b = c.taker_low head k t in
      record {
        root = c.root;
        short = c.short;
        inverse = c.inverse;
        filled = c.filled;
        known = c.known;
        next = c.next;
        end = c.end;
        tail_in = c.tail_in;
        tail_near = c.tail_near;
        head_in = omega arith;
        head_low = omega arith;
        passed = λ y i j. grind (arith, c.passed y i, c.inverse y, c.inverse head);
        taker_low = λ y j i. let a = c.taker_low y j i in (a.0, omega arith, a.2);
      }

  -- a post takes a node
  pub chain-supplied : (j : ℕ) → Chain successor taker head tail position node_at last (put used j true)
  chain-supplied j =
      record {
        root = c.root;
        short = c.short;
        inverse = c.inverse;
        filled = c.filled;
        known = λ x i. grind (arith, put-tells, c.known x i);
        next = c.next;
        end = c.end;
        tail_in = c.tail_in;
        tail_near = c.tail_near;
        head_in = c.head_in;
        head_low = c.head_low;
        passed = c.passed;
        taker_low = c.taker_low;
      }
