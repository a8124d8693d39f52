-- A call with its reply is an event. What an event tells is read here and nowhere else.
use Rattle.std.specs.Prelude.{ℕ, Bool, true, false, cond, Some, None, Option, ◌==◌}
use Rattle.vocabulary.specs.declared.kind.Kind.{Kind}
use Rattle.vocabulary.specs.declared.refusal.Refusal.{Refusal}
use Rattle.promise.specs.declared.call.Call.{Call}
use Rattle.promise.specs.declared.reply.Reply.{Reply}

-- a call, the worker that made a step of it, and its reply. There is such a worker exactly at an accepted step, the one
-- of the call, and at an accepted turn, the one that the picker named
pub record Event (T : Type 0) : Type 0 where
  pub call : Call T
  pub who : Option ℕ
  pub reply : Reply T

-- what an order asks
pub data Asked (T : Type 0) : Type 0 where
  post : T → Asked T
  fetch : Asked T

-- a point as it is told: whose order took effect, at which step's number, and as what
pub record Point : Type 0 where
  pub number : ℕ
  pub worker : ℕ
  pub kind : Kind

-- an answer as it is told
pub record Answer (T : Type 0) : Type 0 where
  pub worker : ℕ
  pub kind : Kind
  pub placing : ℕ
  pub point : ℕ
  pub number : ℕ
  pub element : Option T

-- what an event tells
pub data Told (T : Type 0) : Type 0 where
  -- a call was refused
  refused : Refusal → Told T
  -- a worker placed an order
  placed : ℕ → Asked T → Told T
  -- a worker without an order made a step, by a turn or not; it is not counted
  idled : ℕ → Bool → Told T
  -- a worker made a counted step, by a turn or not; it may tell a point and an answer
  stepped : ℕ → Bool → Option Point → Option (Answer T) → Told T
  -- a reply that does not fit its call
  misfit : Told T

-- a post or a fetch is accepted or refused, and nobody makes a step
abbrev pub on_order : {T : Type 0} → ℕ → Asked T → Option ℕ → Reply T → Told T
on_order w a (Some v) r = Told.misfit
on_order w a None (Reply.Refused n) = Told.refused n
on_order w a None Reply.Accepted = Told.placed w a
on_order w a None Reply.Idle = Told.misfit
on_order w a None Reply.Worked = Told.misfit
on_order w a None (Reply.Point p v k) = Told.misfit
on_order w a None (Reply.Answered v k l p s x) = Told.misfit

-- a step that was accepted, by a turn or not, of the worker w
abbrev pub on_step : {T : Type 0} → Bool → ℕ → Reply T → Told T
on_step turn w (Reply.Refused n) = Told.misfit
on_step turn w Reply.Accepted = Told.misfit
on_step turn w Reply.Idle = Told.idled w turn
on_step turn w Reply.Worked = Told.stepped w turn None None
on_step turn w (Reply.Point p v k) = Told.stepped w turn (Some (record { number = p; worker = v; kind = k })) None
on_step turn w (Reply.Answered v k l p s x) = Told.stepped w turn None (Some (record { worker = v; kind = k; placing = l; point = p; number = s; element = x }))

-- a step or a turn that nobody made was refused
abbrev pub on_no_step : {T : Type 0} → Reply T → Told T
on_no_step (Reply.Refused n) = Told.refused n
on_no_step Reply.Accepted = Told.misfit
on_no_step Reply.Idle = Told.misfit
on_no_step Reply.Worked = Told.misfit
on_no_step (Reply.Point p v k) = Told.misfit
on_no_step (Reply.Answered v k l p s x) = Told.misfit

abbrev pub told_by : {T : Type 0} → Call T → Option ℕ → Reply T → Told T
told_by (Call.Post w x) who r = on_order w (Asked.post x) who r
told_by (Call.Fetch w) who r = on_order w Asked.fetch who r
told_by (Call.Step w) None r = on_no_step r
told_by (Call.Step w) (Some v) r = cond (v == w) (on_step false w r) Told.misfit
told_by Call.Turn None r = on_no_step r
told_by Call.Turn (Some v) r = on_step true v r

abbrev pub told : {T : Type 0} → Event T → Told T
told e = told_by e.call e.who e.reply
