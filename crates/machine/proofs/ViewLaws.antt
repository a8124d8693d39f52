-- The code's tables as maps: a table changed at one place is the map changed at that place.
use Rattle.std.proofs.Common.{◌≡◌, ℕ, ◌<◌, List, length, get_or, set, Some, None, Option, nat_eq, if◌then◌else◌, refl, ap, arith}
use mathlib.Core.Path.{fun_ext}
use Rattle.std.specs.Option.{is_none, option_eq}
use Rattle.std.proofs.lemmas.List.{get_or-set_same, get_or-set_other}
use Rattle.std.proofs.lemmas.Bool.{cases_eq}
use Rattle.promise.specs.Maps.{put}
use Rattle.promise.proofs.MapLaws.{put-tells}
use Rattle.machine.specs.declared.access.Access.{Access}
use Rattle.machine.specs.declared.entry.Entry.{Entry}
use Rattle.machine.specs.declared.node.Node.{Node}
use Rattle.machine.specs.declared.queue.Queue.{Queue}
use Rattle.machine.specs.Memory.{Memory, left_by}
use Rattle.machine.specs.Queues.{memory_of, blank_node}
use Rattle.machine.specs.States.{blank_entry}

-- a part f of each element
pub view-set : {X Y : Type 0} (f : X → Y) (xs : List X) (j : ℕ) (v d : X) → j < length xs → ◌≡◌ {A = ℕ → Y} (λ i. f (get_or (set xs j v) i d)) (put (λ i. f (get_or xs i d)) j (f v))
view-set f xs j v d l = fun_ext (λ i. grind (arith, put-tells, get_or-set_same, get_or-set_other, cases_eq i j))

-- a place that gets what it has
pub put-kept : {X : Type 0} (f : ℕ → X) (j : ℕ) → put f j (f j) ≡ f
put-kept f j = fun_ext (λ i. grind (arith, put-tells))

-- a place that is set if it has none
exchanged : (G : (ℕ → Option ℕ) → Memory) (f : ℕ → Option ℕ) (j : ℕ) (new x o : Option ℕ) → f j ≡ o → x ≡ (if option_eq nat_eq o None then new else o) → G (put f j x) ≡ (if is_none o then G (put f j new) else G f)
exchanged G f j new x None h e = rw e refl
exchanged G f j new x (Some y) h e = rw (e, ← h, put-kept f j) refl

-- the queue's memory after one place of a table was written
module _ (q : Queue) where
  pub entry-written : (k : ℕ) (e : Entry) → k < length q.entries → memory_of (record q { entries = set q.entries k e }) ≡ record (memory_of q) { entry = put (memory_of q).entry k e }
  entry-written k e l = ap (λ (f : ℕ → Entry). record (memory_of q) { entry = f }) (view-set (λ x. x) q.entries k e blank_entry l)

  pub node-written : (j : ℕ) (n : Node) → j < length q.nodes → memory_of (record q { nodes = set q.nodes j n }) ≡ record (memory_of q) { successor = put (memory_of q).successor j n.successor; taker = put (memory_of q).taker j n.taker; poster = put (memory_of q).poster j n.poster }
  node-written j n l =
      let s = view-set (λ x. x.successor) q.nodes j n blank_node l in
      let t = view-set (λ x. x.taker) q.nodes j n blank_node l in
      let p = view-set (λ x. x.poster) q.nodes j n blank_node l in
      rw (s, t, p) refl

  pub successor-exchanged : (j : ℕ) (to x : Option ℕ) → j < length q.nodes → x ≡ (if option_eq nat_eq ((memory_of q).successor j) None then to else (memory_of q).successor j) → memory_of (record q { nodes = set q.nodes j (record (get_or q.nodes j blank_node) { successor = x }) }) ≡ left_by (memory_of q) (Access.ExchangeSuccessor j to)
  successor-exchanged j to x l e =
      rw (node-written j (record (get_or q.nodes j blank_node) { successor = x }) l, put-kept (memory_of q).taker j, put-kept (memory_of q).poster j)
      (exchanged (λ f. record (memory_of q) { successor = f }) (memory_of q).successor j to x _ refl e)

  pub taker-exchanged : (j k : ℕ) (x : Option ℕ) → j < length q.nodes → x ≡ (if option_eq nat_eq ((memory_of q).taker j) None then Some k else (memory_of q).taker j) → memory_of (record q { nodes = set q.nodes j (record (get_or q.nodes j blank_node) { taker = x }) }) ≡ left_by (memory_of q) (Access.ExchangeTaker j k)
  taker-exchanged j k x l e =
      rw (node-written j (record (get_or q.nodes j blank_node) { taker = x }) l, put-kept (memory_of q).successor j, put-kept (memory_of q).poster j)
      (exchanged (λ f. record (memory_of q) { taker = f }) (memory_of q).taker j (Some k) x _ refl e)

-- what an access that writes a table leaves
pub ruleset table_writes = (entry-written, successor-exchanged, taker-exchanged)
