-- Every sequence of moves of the abstract line is well told and in order.
use Rattle.std.proofs.Common.{ℕ, Bool, List, Option, sym, refl, subst, arith}
use Rattle.promise.specs.AbstractLine.{Line, Ending, Move, Moves, ending, LineKeepsOrder}
use Rattle.promise.specs.Books.{Book, after_answer, answer_to, after_told, book_from, blank}
use Rattle.promise.specs.Events.{Event, Answer, Told, told}
use Rattle.promise.specs.Order.{InOrder}
use Rattle.promise.specs.WellTold.{AnswerFits, Fits, WellFrom}
use Rattle.promise.proofs.LineAnswered.{known-ended}
use Rattle.promise.proofs.LineEffects.{effect-known}
use Rattle.promise.proofs.LinePlaced.{known-empty, known-placed, known-counted, fresh-counted}
use Rattle.promise.proofs.LineState.{Known}

module _ {T : Type 0} (strict : Bool) where
  ending-known : (b : Book T) (s : Line T) (k : Known strict b s) (w : ℕ) {a : Option (Answer T)} {s₁ : Line T} → Ending strict s w a s₁ → AnswerFits b w a × Known strict (after_answer b a) s₁
  ending-known b s k w Ending.goes_on = (tt, k)
  ending-known b s k w (Ending.answers o g open_order given below) =
      let x = k.busy w o open_order in
      let said : Answer T = record { worker = w; kind = g.kind; placing = o.placing; point = g.number; number = s.steps; element = g.element } in
      ((refl, (x.index, x.current)), subst (λ (c : Option ℕ). Known strict (answer_to b said c) (ending s w)) (sym x.current) (known-ended strict b s k w o g open_order given below))

  move-known : (b : Book T) (s : Line T) (k : Known strict b s) {e : Told T} {s₁ : Line T} → Move strict s e s₁ → Fits strict b e × Known strict (after_told b e) s₁
  move-known b s k (Move.refuses n) = (tt, k)
  move-known b s k (Move.idles w turn free) = (k.idle w free, k)
  move-known b s k (Move.places w a free) = (k.idle w free, known-placed strict b s k w a free)
  move-known b s k (Move.steps w turn o busy effect end) =
      let x = k.busy w o busy in
      let counted = known-counted strict b s k w in
      let after = effect-known strict _ _ counted w o busy (fresh-counted strict b s k w) effect in
      let ended = ending-known _ _ after.1 w end in
      (((x.index, x.current), after.0, ended.0), ended.1)

  moves-known : (b : Book T) {s : Line T} {t : List (Event T)} {s₁ : Line T} → Known strict b s → Moves strict s t s₁ → WellFrom strict b t × Known strict (book_from b t) s₁
  moves-known b k Moves.done = (tt, k)
  moves-known b k (Moves.more {e = e} move rest) =
      let first = move-known b _ k move in
      let others = moves-known (after_told b (told e)) first.1 rest in
      ((first.0, others.0), others.1)

  known-in-order : (b : Book T) (s : Line T) → Known strict b s → InOrder strict b s.queue
  known-in-order b s k =
      record {
        answered = k.answered;
        single = k.single;
        apart = λ i j p q l m e f same. let x = (k.point i p l e).own in let y = (k.point j q m f).own in grind arith;
        above = λ i p l e. (k.point i p l e).above;
        kinds = λ i p l e. (k.point i p l e).kind;
        remains = k.queue;
      }

pub line-keeps-order : {T : Type 0} → LineKeepsOrder T
line-keeps-order strict t s moves =
    let all = moves-known strict blank (known-empty strict) moves in
    (all.0, known-in-order strict _ s all.1)
