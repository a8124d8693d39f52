-- Each transition of the machine is an effect on the abstract line; and what the machine keeps of placings and points is
-- what the line has.
use Rattle.std.proofs.Common.{◌≡◌, ℕ, ◌+◌, ◌≤◌, true, ◌⊎◌, Some, None, Option, sym, refl, ◌∙◌, subst, inl, inr, arith}
use Rattle.std.proofs.lemmas.Bool.{true≢false}
use Rattle.promise.specs.AbstractLine.{Given, Open, Line, Effect, counting, placing, ending}
use Rattle.promise.specs.Events.{Asked, Point}
use Rattle.promise.specs.Maps.{put}
use Rattle.promise.proofs.MapLaws.{put_same, put_other, put-tells}
use Rattle.machine.specs.Memory.{Memory}
use Rattle.machine.specs.States as states
use Rattle.linearization.proofs.Ghosts.{Ghost, Write, line_of}
use Rattle.linearization.proofs.Transitions.{Transition}

-- a point as the machine keeps it
abbrev pub kept_point : {T : Type 0} → Option (Given T) → Option states.Given
kept_point None = None
kept_point (Some v) = Some (record { number = v.number; kind = v.kind })

abbrev pub points_after : Option Point → (ℕ → Option states.Given) → ℕ → Option states.Given
points_after None f = f
points_after (Some p) f = put f p.worker (Some (record { number = p.number; kind = p.kind }))

-- the line's open order o of a worker, whose placing and point the machine keeps, with so many steps counted
pub record OrderKept {T : Type 0} (steps place : ℕ) (kept : Option states.Given) (o : Open T) : Type 0 where
  pub placed : place ≡ o.placing
  pub pointed : kept ≡ kept_point o.given
  pub before : o.placing ≤ steps
  pub given : (v : Given T) → o.given ≡ Some v → v.number ≤ steps

pub record LineKept {T : Type 0} (place : ℕ → ℕ) (kept : ℕ → Option states.Given) (s : Line T) : Type 0 where
  pub orders : (w : ℕ) (o : Open T) → s.order w ≡ Some o → OrderKept s.steps (place w) (kept w) o
  pub marks : (w e : ℕ) → s.saw w ≡ Some e → e ≤ s.steps

module _ {T : Type 0} (place : ℕ → ℕ) (kept : ℕ → Option states.Given) (s : Line T) (l : LineKept place kept s) where
  pub kept-counted : LineKept place kept (counting s)
  kept-counted =
      record {
        orders = λ w o e. let a = l.orders w o e in record { placed = a.placed; pointed = a.pointed; before = omega (arith, a.before); given = λ v h. let b = a.given v h in omega arith };
        marks = λ w e h. let a = l.marks w e h in omega arith;
      }

  -- k's order gets the point v
  module _ (k : ℕ) (o : Open T) (v : Given T) (h : s.order k ≡ Some o) (high : v.number ≤ s.steps) where
    abbrev pointed-order : Open T
    pointed-order = record { asked = o.asked; placing = o.placing; given = Some v }

    own-pointed : (p : Open T) → p ≡ pointed-order → OrderKept s.steps (place k) (Some (record { number = v.number; kind = v.kind })) p
    own-pointed p e = let a = l.orders k o h in subst (OrderKept s.steps (place k) (Some (record { number = v.number; kind = v.kind }))) (sym e) (record { placed = a.placed; pointed = refl; before = a.before; given = λ x j. let z : x.number ≡ v.number = grind arith in omega arith })

    kept-pointed : (w : ℕ) (p : Open T) → put s.order k (Some pointed-order) w ≡ Some p → OrderKept s.steps (place w) (put kept k (Some (record { number = v.number; kind = v.kind })) w) p
    kept-pointed w p e = go (put-tells s.order k (Some pointed-order) w)
      where
        go : ((put s.order k (Some pointed-order) w ≡ Some pointed-order) × (w ≡ k)) ⊎ ((put s.order k (Some pointed-order) w ≡ s.order w) × (w ≡ k → ⊥)) → OrderKept s.steps (place w) (put kept k (Some (record { number = v.number; kind = v.kind })) w) p
        go (inl x) = let i : p ≡ pointed-order = grind arith in subst (λ j. OrderKept s.steps (place j) (put kept k (Some (record { number = v.number; kind = v.kind })) j) p) (sym x.1) (rw put_same (own-pointed p i))
        go (inr x) = rw (put_other kept k (Some (record { number = v.number; kind = v.kind })) w x.1) (l.orders w p (sym x.0 ∙ e))

  pub kept-effect : (w : ℕ) {p : Option Point} {s₁ : Line T} → Effect true s w p s₁ → LineKept place (points_after p kept) s₁
  kept-effect w Effect.nothing = l
  kept-effect w (Effect.marks e) = record { orders = l.orders; marks = λ v j h. grind (arith, put-tells, l.marks v j) }
  kept-effect w (Effect.appends k o x h a e) = record { orders = kept-pointed k o _ h (omega arith); marks = l.marks }
  kept-effect w (Effect.takes k o y rest h a e q) = record { orders = kept-pointed k o _ h (omega arith); marks = l.marks }
  kept-effect w (Effect.empties k o j h a e saw pl low) = record { orders = kept-pointed k o _ h (omega arith); marks = λ v i b. grind (arith, put-tells, l.marks v i) }
  kept-effect w (Effect.finds_none k o f h a e q) = absurd (true≢false f)

  pub kept-placed : (w : ℕ) (a : Asked T) → LineKept (put place w s.steps) (put kept w None) (placing s w a)
  kept-placed w a =
      record {
        orders = λ v o e. go v o e (put-tells s.order w (Some (record { asked = a; placing = s.steps; given = None })) v);
        marks = λ v e h. grind (arith, put-tells, l.marks v e);
      }
    where
      go : (v : ℕ) (o : Open T) → put s.order w (Some (record { asked = a; placing = s.steps; given = None })) v ≡ Some o → ((put s.order w (Some (record { asked = a; placing = s.steps; given = None })) v ≡ Some (record { asked = a; placing = s.steps; given = None })) × (v ≡ w)) ⊎ ((put s.order w (Some (record { asked = a; placing = s.steps; given = None })) v ≡ s.order v) × (v ≡ w → ⊥)) → OrderKept s.steps (put place w s.steps v) (put kept w None v) o
      go v o e (inl x) = let i : o ≡ record { asked = a; placing = s.steps; given = None } = grind arith in subst (OrderKept s.steps (put place w s.steps v) (put kept w None v)) (sym i) (record { placed = grind (arith, put-tells); pointed = grind (arith, put-tells); before = omega arith; given = λ y h. grind arith })
      go v o e (inr x) = rw (put_other place w s.steps v x.1, put_other kept w None v x.1) (l.orders v o (sym x.0 ∙ e))

  pub kept-ended : (w : ℕ) → LineKept place kept (ending s w)
  kept-ended w = record { orders = λ v o e. l.orders v o (grind (arith, put-tells)); marks = λ v e h. l.marks v e (grind (arith, put-tells)) }

-- an effect that tells no point leaves the orders; none gives a worker an order
pub quiet_effect : {T : Type 0} {s : Line T} {w : ℕ} {s₁ : Line T} → Effect true s w None s₁ → s₁.order ≡ s.order
quiet_effect Effect.nothing = refl
quiet_effect (Effect.marks e) = refl

pub effect-frees : {T : Type 0} {s : Line T} {w : ℕ} {p : Option Point} {s₁ : Line T} → Effect true s w p s₁ → (j : ℕ) → s.order j ≡ None → s₁.order j ≡ None
effect-frees Effect.nothing j h = h
effect-frees (Effect.marks e) j h = h
effect-frees (Effect.appends k o x b a e) j h = grind (arith, put-tells)
effect-frees (Effect.takes k o y rest b a e q) j h = grind (arith, put-tells)
effect-frees (Effect.empties k o i b a e saw pl low) j h = grind (arith, put-tells)
effect-frees (Effect.finds_none k o f b a e q) j h = absurd (true≢false f)

-- a transition in the step after so many, as an effect
pub effect_of : {T : Type 0} (n w steps : ℕ) (m : Memory) (g : Ghost T) → ((v e : ℕ) → g.saw v ≡ Some e → e ≤ steps) → {e : Write} {p : Option Point} {g' : Ghost T} → Transition n w w (steps + 1) m g e p g' → Effect true (counting (line_of g steps)) w p (line_of g' (steps + 1))
effect_of n w steps m g low Transition.nothing = Effect.nothing
effect_of n w steps m g low (Transition.sees_empty q) = Effect.marks q
effect_of n w steps m g low (Transition.sets_out k p) = Effect.nothing
effect_of n w steps m g low (Transition.announces q d own un hi over) = Effect.nothing
effect_of n w steps m g low (Transition.finishes k y f o ph ki nd is lo ow) = Effect.nothing
effect_of n w steps m g low (Transition.links k l x o y su en at p ki nd oo aq gi el) = Effect.appends k o y oo aq gi
effect_of n w steps m g low (Transition.moves_tail y su s) = Effect.nothing
effect_of n w steps m g low (Transition.names_node k h f p ki ph be ho lo ne) = Effect.nothing
effect_of n w steps m g low (Transition.finds_empty k f o e p ki ph be oo aq gi sa pl) = Effect.empties k o e oo aq gi sa pl (let a = low w e sa in omega arith)
effect_of n w steps m g low (Transition.takes k o x y rest fr p ki nd oo aq gi su el qu ho) = Effect.takes k o y rest oo aq gi qu
effect_of n w steps m g low (Transition.settles k h f o ph ki nd is ta he) = Effect.nothing
effect_of n w steps m g low (Transition.moves_head k x su ta s) = Effect.nothing

-- no transition changes an element
pub same-elements : {T : Type 0} {n u v t : ℕ} {m : Memory} {g : Ghost T} {e : Write} {p : Option Point} {g' : Ghost T} → Transition n u v t m g e p g' → g'.element ≡ g.element
same-elements Transition.nothing = refl
same-elements (Transition.sees_empty q) = refl
same-elements (Transition.sets_out k p) = refl
same-elements (Transition.announces q d own un hi over) = refl
same-elements (Transition.finishes k y f o ph ki nd is lo ow) = refl
same-elements (Transition.links k l x o y su en at p ki nd oo aq gi el) = refl
same-elements (Transition.moves_tail y su s) = refl
same-elements (Transition.names_node k h f p ki ph be ho lo ne) = refl
same-elements (Transition.finds_empty k f o e p ki ph be oo aq gi sa pl) = refl
same-elements (Transition.takes k o x y rest fr p ki nd oo aq gi su el qu ho) = refl
same-elements (Transition.settles k h f o ph ki nd is ta he) = refl
same-elements (Transition.moves_head k x su ta s) = refl
