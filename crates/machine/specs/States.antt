-- The state of a run, and one step of it: an access, what it sees and leaves, and how the worker advances.
use Rattle.std.specs.Prelude.{ℕ, ◌+◌, false, Some, None, Option}
use Rattle.vocabulary.specs.declared.kind.Kind.{Kind}
use Rattle.promise.specs.declared.reply.Reply.{Reply}
use Rattle.promise.specs.Maps.{put}
use Rattle.machine.specs.declared.access.Outcome.{Outcome}
use Rattle.machine.specs.declared.entry.Entry.{Entry}
use Rattle.machine.specs.declared.entry.OrderKind.{OrderKind}
use Rattle.machine.specs.declared.stage.OrderStage.{OrderStage}
use Rattle.machine.specs.declared.stage.Stage.{Stage}
use Rattle.machine.specs.declared.worker.Worker.{Worker}
use Rattle.machine.specs.Accesses.{access_of}
use Rattle.machine.specs.Advances.{Advanced}
use Rattle.machine.specs.HelpAdvances.{advance_of}
use Rattle.machine.specs.Memory.{Memory, seen_by, left_by}

-- the point that a worker's unanswered order has
pub record Given : Type 0 where
  pub number : ℕ
  pub kind : Kind

pub record State (T : Type 0) : Type 0 where
  pub crew : ℕ
  pub steps : ℕ
  pub memory : Memory
  pub worker : ℕ → Worker
  -- of each worker's latest order: the steps counted when it was placed, and its point
  pub placing : ℕ → ℕ
  pub point : ℕ → Option Given
  -- of each node that was taken: its element
  pub element : ℕ → Option T

abbrev pub blank_entry : Entry
blank_entry = record { descriptor = record { phase = 0; pending = false; kind = OrderKind.Post; node = None }; count = 0 }

-- a worker at a stage, with an order and nothing read yet
abbrev pub beginning : Stage → OrderKind → Option ℕ → Worker
beginning a kind own = record { stage = a; kind = kind; own = own; phase = 0; index = 0; tail = 0; head = 0; next = None; node = None; taker = None; kept_phase = 0; saved = 0; t3 = 0 }

-- a run of n workers as it is opened: head and tail name node 0
abbrev pub opened : {T : Type 0} → ℕ → State T
opened n = record { crew = n; steps = 0; memory = record { head = 0; tail = 0; successor = λ j. None; taker = λ j. None; entry = λ k. blank_entry; poster = λ j. 0 }; worker = λ w. beginning Stage.Idle OrderKind.Post None; placing = λ w. 0; point = λ w. None; element = λ j. None }

-- the worker w places a post of x with the node j, or a fetch
abbrev pub posting : {T : Type 0} → State T → ℕ → T → ℕ → State T
posting s w x j = record s { memory = record s.memory { poster = put s.memory.poster j w }; worker = put s.worker w (beginning (Stage.Order OrderStage.Scan) OrderKind.Post (Some j)); placing = put s.placing w s.steps; point = put s.point w None; element = put s.element j (Some x) }

abbrev pub fetching : {T : Type 0} → State T → ℕ → State T
fetching s w = record s { worker = put s.worker w (beginning (Stage.Order OrderStage.Scan) OrderKind.Fetch None); placing = put s.placing w s.steps; point = put s.point w None }

-- a point goes to its worker's order
abbrev pub point_after : Outcome → (ℕ → Option Given) → ℕ → Option Given
point_after Outcome.Idle f = f
point_after Outcome.Worked f = f
point_after (Outcome.Point number k kind) f = put f k (Some (record { number = number; kind = kind }))
point_after (Outcome.Answered _) f = f

-- a counted step of the worker w: its access, and how it advances, in the step of the next number
abbrev pub advanced : {T : Type 0} → State T → ℕ → Advanced
advanced s w = advance_of s.crew (s.steps + 1) (s.worker w) (seen_by s.memory (access_of s.memory.poster w (s.worker w)))

abbrev pub counted : {T : Type 0} → State T → ℕ → Advanced → State T
counted s w a = record s { steps = s.steps + 1; memory = left_by s.memory (access_of s.memory.poster w (s.worker w)); worker = put s.worker w a.worker; point = point_after a.outcome s.point }

-- an idle step is not counted and changes nothing
abbrev pub after_step : {T : Type 0} → State T → ℕ → Advanced → Outcome → State T
after_step s w a Outcome.Idle = s
after_step s w a Outcome.Worked = counted s w a
after_step s w a (Outcome.Point number k kind) = counted s w a
after_step s w a (Outcome.Answered _) = counted s w a

-- an answer tells the order's own placing and point, the number of this step, and the element of the node
abbrev pub element_of : {T : Type 0} → (ℕ → Option T) → Option ℕ → Option T
element_of element None = None
element_of element (Some j) = element j

abbrev pub answer_by : {T : Type 0} → ℕ → ℕ → ℕ → Option T → Option Given → Reply T
answer_by w placing number x None = Reply.Worked
answer_by w placing number x (Some g) = Reply.Answered w g.kind placing g.number number x

abbrev pub reply_of : {T : Type 0} → State T → ℕ → Outcome → Reply T
reply_of s w Outcome.Idle = Reply.Idle
reply_of s w Outcome.Worked = Reply.Worked
reply_of s w (Outcome.Point number k kind) = Reply.Point number k kind
reply_of s w (Outcome.Answered node) = answer_by w (s.placing w) (s.steps + 1) (element_of s.element node) (s.point w)

abbrev pub stepping : {T : Type 0} → State T → ℕ → State T
stepping s w = after_step s w (advanced s w) (advanced s w).outcome

abbrev pub step_reply : {T : Type 0} → State T → ℕ → Reply T
step_reply s w = reply_of s w (advanced s w).outcome
