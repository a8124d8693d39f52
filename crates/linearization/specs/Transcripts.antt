-- Transcripts of the machine's runs, and the statement that they keep the order by points.
use Rattle.std.specs.Prelude.{ℕ, true, List, [], ◌∷◌}
use Rattle.promise.specs.declared.call.Call.{Call}
use Rattle.promise.specs.Books.{book_of}
use Rattle.promise.specs.Events.{Event}
use Rattle.promise.specs.Order.{InOrder}
use Rattle.promise.specs.WellTold.{WellTold}
use Rattle.machine.specs.Calls.{Run, Played, opened_run, played, left}

-- a call, with the crew of the picker that a turn would ask and the worker that it would name
pub record Asking (T : Type 0) : Type 0 where
  pub call : Call T
  pub crew : ℕ
  pub named : ℕ

-- the events of calls given to a run one after another, and the run after them
pub record Transcript (T : Type 0) : Type 0 where
  pub events : List (Event T)
  pub run : Run T

abbrev pub transcript : {T : Type 0} → Run T → List (Asking T) → Transcript T
transcript r [] = record { events = []; run = r }
transcript r (c ∷ cs) =
    let p : Played _ = played r c.crew c.named c.call in
    let rest : Transcript _ = transcript p.run cs in
    record { events = p.event ∷ rest.events; run = rest.run }

-- for every crew, every number of nodes and every list of calls, with any arguments and any workers named: the events are
-- well told and in order by points, and what closing would leave is what the points leave
abbrev pub MachineKeepsOrder : Type 0 → Type 0
MachineKeepsOrder T = (n nodes : ℕ) (cs : List (Asking T)) →
    let t : Transcript T = transcript (opened_run n nodes) cs in
    WellTold true t.events × InOrder true (book_of t.events) (left t.run)
