-- What is known of a worker at each stage, besides the invariant of what is shared. A fact about something that was read
-- a while ago holds under what would have frozen it: an entry whose count is still the saved one, a node that is still
-- the last, head or tail that is still the same.
use Rattle.std.proofs.Common.{◌≡◌, ℕ, ◌+◌, ◌<◌, ◌≤◌, true, false, ◌≢◌, ◌⊎◌, Some, None, Option}
use Rattle.vocabulary.specs.declared.kind.Kind.{Kind}
use Rattle.machine.specs.declared.entry.Entry.{Entry}
use Rattle.machine.specs.declared.entry.OrderKind.{OrderKind}
use Rattle.machine.specs.declared.stage.EmptyStage.{EmptyStage}
use Rattle.machine.specs.declared.stage.FinishDeqStage.{FinishDeqStage}
use Rattle.machine.specs.declared.stage.FinishEnqStage.{FinishEnqStage}
use Rattle.machine.specs.declared.stage.HelpDeqStage.{HelpDeqStage}
use Rattle.machine.specs.declared.stage.HelpEnqStage.{HelpEnqStage}
use Rattle.machine.specs.declared.stage.OrderStage.{OrderStage}
use Rattle.machine.specs.declared.stage.Return.{Return}
use Rattle.machine.specs.declared.stage.Stage.{Stage}
use Rattle.machine.specs.declared.stage.TakeStage.{TakeStage}
use Rattle.machine.specs.declared.worker.Worker.{Worker}
use Rattle.machine.specs.Accesses.{named}
use Rattle.machine.specs.Memory.{Memory}
use Rattle.linearization.proofs.Ghosts.{Ghost, is_pending, kind_of, node_of, phase_of, count_of, service, service_in, placing_in}
use Rattle.linearization.proofs.Relies.{FetchServed}
use Rattle.linearization.proofs.Transitions.{Linked, Passed, Unannounced}

-- of a worker without an order
pub record Quiescent {T : Type 0} (m : Memory) (g : Ghost T) (w : ℕ) : Type 0 where
  pub silent : is_pending m w ≡ false
  pub linked : Linked m g w
  pub passed : Passed m g w
  pub free : g.order w ≡ None

-- of a scan that has read the entries below i, with the largest phase q
pub record Scanning {T : Type 0} (m : Memory) (g : Ghost T) (w i q : ℕ) : Type 0 where
  pub over : (j : ℕ) → j < i → g.helped w j ≤ q
  pub self : w < i → phase_of m w ≤ q

-- of the phase q that a scan chose
pub record PhaseChosen {T : Type 0} (m : Memory) (g : Ghost T) (n w q : ℕ) : Type 0 where
  pub over : (j : ℕ) → j < n → g.helped w j < q
  pub self : phase_of m w < q

-- of an announced post of the node x
pub record Posted {T : Type 0} (m : Memory) (g : Ghost T) (w x : ℕ) : Type 0 where
  pub names : node_of m w ≡ Some x
  pub mine : m.poster x ≡ w
  pub old : g.used x ≡ true
  pub done : is_pending m w ≡ false → 0 < g.position x

-- of an announced order of kind d, with its node and the phase p, whose loop is at i
pub record Announced {T : Type 0} (m : Memory) (g : Ghost T) (w : ℕ) (d : OrderKind) (own : Option ℕ) (p i : ℕ) : Type 0 where
  pub phased : phase_of m w ≡ p
  pub kinded : kind_of m w ≡ d
  pub past : w < i → is_pending m w ≡ false
  pub post : d ≡ OrderKind.Post → Posted m g w (named own)
  pub fetch : (x : ℕ) → d ≡ OrderKind.Fetch → is_pending m w ≡ false → node_of m w ≡ Some x → m.taker x ≡ Some w
  pub busy : g.order w ≢ None
  pub post_served : d ≡ OrderKind.Post → is_pending m w ≡ false → service_in (g.order w) ≡ service Kind.Post None
  pub fetch_served : d ≡ OrderKind.Fetch → is_pending m w ≡ false → FetchServed m g w

-- w helps k, with the phase p, in an order of kind e: k has no other order of such a phase
pub record Helping {T : Type 0} (m : Memory) (g : Ghost T) (w p k : ℕ) (e : OrderKind) : Type 0 where
  pub asked : p ≤ g.helped k w
  pub kin : is_pending m k ≡ true → phase_of m k ≤ p → kind_of m k ≡ e

-- by what comes after help_finish_enq or help_finish_deq: whom it helps, whether it has to bring tail or head past the
-- worker's own node, and whether help_finish_deq is called so
abbrev pub HelpingIn : {T : Type 0} → Memory → Ghost T → ℕ → ℕ → ℕ → Return → Type 0
HelpingIn m g w p k Return.HelpEnq = Helping m g w p k OrderKind.Post
HelpingIn m g w p k Return.HelpDeq = Helping m g w p k OrderKind.Fetch
HelpingIn m g w p k Return.NextWorker = Unit {0}
HelpingIn m g w p k Return.End = Unit {0}

abbrev pub BringsTail : Return → ℕ → ℕ → Type 0
BringsTail Return.HelpEnq w i = ⊥
BringsTail Return.HelpDeq w i = ⊥
BringsTail Return.NextWorker w i = i ≡ w
BringsTail Return.End w i = Unit {0}

abbrev pub BringsHead : Return → Type 0
BringsHead Return.HelpEnq = ⊥
BringsHead Return.HelpDeq = ⊥
BringsHead Return.NextWorker = ⊥
BringsHead Return.End = Unit {0}

abbrev pub FromDeq : Return → Type 0
FromDeq Return.HelpEnq = ⊥
FromDeq Return.HelpDeq = Unit {0}
FromDeq Return.NextWorker = ⊥
FromDeq Return.End = Unit {0}

-- l was tail, h was head
pub record WasTail {T : Type 0} (m : Memory) (g : Ghost T) (l : ℕ) : Type 0 where
  pub held : 0 < g.position l
  pub low : g.position l ≤ g.position m.tail

pub record WasHead {T : Type 0} (m : Memory) (g : Ghost T) (h : ℕ) : Type 0 where
  pub held : 0 < g.position h
  pub low : g.position h ≤ g.position m.head

-- x was read as a successor, and is one
abbrev pub IsSuccessor : Memory → ℕ → Option ℕ → Type 0
IsSuccessor m l x = (m.successor l ≡ Some (named x)) × (x ≡ Some (named x))

-- in help_finish_enq, having read tail as l
pub record FinishingEnq {T : Type 0} (m : Memory) (g : Ghost T) (w : ℕ) (d : OrderKind) (own : Option ℕ) (p i : ℕ) (r : Return) (l : ℕ) : Type 0 where
  pub order : Announced m g w d own p i
  pub help : HelpingIn m g w p i r
  pub was : WasTail m g l
  pub aim : BringsTail r w i → (d ≡ OrderKind.Post) × (0 < g.position (named own)) × (g.position (named own) ≤ g.position l + 1)

-- E3 read the entry of y's poster, with the count c
pub record ReadByE3 {T : Type 0} (m : Memory) (g : Ghost T) (l y c : ℕ) : Type 0 where
  pub since : c ≤ count_of m (m.poster y)
  pub race : g.position m.tail ≡ g.position l → (count_of m (m.poster y) ≡ c) ⊎ (is_pending m (m.poster y) ≡ false)

-- in help_finish_deq, having read head as h
pub record FinishingDeq {T : Type 0} (m : Memory) (g : Ghost T) (w : ℕ) (d : OrderKind) (own : Option ℕ) (p i : ℕ) (r : Return) (h : ℕ) : Type 0 where
  pub order : Announced m g w d own p i
  pub help : HelpingIn m g w p i r
  pub from : FromDeq r
  pub was : WasHead m g h
  pub aim : BringsHead r → (d ≡ OrderKind.Fetch) × (is_pending m w ≡ false) × ((x : ℕ) → m.taker x ≡ Some w → g.position x ≤ g.position h)

-- D2 read o as h's successor
pub record ReadByD2 {T : Type 0} (m : Memory) (g : Ghost T) (w : ℕ) (r : Return) (h : ℕ) (o : Option ℕ) : Type 0 where
  pub then : (y : ℕ) → o ≡ Some y → m.successor h ≡ Some y
  pub none : BringsHead r → o ≡ None → (x : ℕ) → m.taker x ≡ Some w → g.position x < g.position h

-- D4 read the entry of h's taker k, with the count c
pub record ReadByD4 {T : Type 0} (m : Memory) (g : Ghost T) (h k c : ℕ) : Type 0 where
  pub of : m.taker h ≡ Some k
  pub since : c ≤ count_of m k
  pub race : g.position m.head ≡ g.position h → (count_of m k ≡ c) ⊎ (is_pending m k ≡ false)

-- h's taker is settled, if h is still head
pub record TakerSettled {T : Type 0} (m : Memory) (g : Ghost T) (h : ℕ) : Type 0 where
  pub k : ℕ
  pub of : m.taker h ≡ Some k
  pub shut : g.position m.head ≡ g.position h → is_pending m k ≡ false

-- in help_enq for i, having read tail as l; in help_deq for i, having read head as h
pub record HelpingEnq {T : Type 0} (m : Memory) (g : Ghost T) (w : ℕ) (d : OrderKind) (own : Option ℕ) (p i l : ℕ) : Type 0 where
  pub order : Announced m g w d own p i
  pub help : Helping m g w p i OrderKind.Post
  pub was : WasTail m g l

pub record HelpingDeq {T : Type 0} (m : Memory) (g : Ghost T) (w : ℕ) (d : OrderKind) (own : Option ℕ) (p i h : ℕ) : Type 0 where
  pub order : Announced m g w d own p i
  pub help : Helping m g w p i OrderKind.Fetch
  pub was : WasHead m g h

-- the entry of k, if its count is still c, names no node at h or after it
pub record NamesEarlier {T : Type 0} (m : Memory) (g : Ghost T) (k h c : ℕ) : Type 0 where
  pub since : c ≤ count_of m k
  pub before : (x : ℕ) → count_of m k ≡ c → is_pending m k ≡ true → kind_of m k ≡ OrderKind.Fetch → node_of m k ≡ Some x → g.position x < g.position h

-- T9 read the entry of k, with the count c and the node o
pub record ReadByT9 {T : Type 0} (m : Memory) (g : Ghost T) (k h c : ℕ) (o : Option ℕ) : Type 0 where
  pub near : g.position h < g.position m.tail
  pub since : c ≤ count_of m k
  pub then : count_of m k ≡ c → node_of m k ≡ o

-- w's T3, numbered t, saw the queue empty, after the order that it helps was placed
pub record SawEmpty {T : Type 0} (m : Memory) (g : Ghost T) (w p k t : ℕ) : Type 0 where
  pub saw : g.saw w ≡ Some t
  pub after : is_pending m k ≡ true → phase_of m k ≤ p → placing_in (g.order k) < t

-- what an entry is, if its count is still c
abbrev pub Unwritten : Memory → ℕ → ℕ → (Entry → Type 0) → Type 0
Unwritten m k c P = count_of m k ≡ c → P (m.entry k)

abbrev pub PostOf : ℕ → Entry → Type 0
PostOf y e = (e.descriptor.kind ≡ OrderKind.Post) × (e.descriptor.node ≡ Some y)

abbrev pub FetchOf : ℕ → Entry → Type 0
FetchOf h e = (e.descriptor.kind ≡ OrderKind.Fetch) × (e.descriptor.node ≡ Some h)

abbrev pub PendingUpTo : ℕ → Entry → Type 0
PendingUpTo p e = (e.descriptor.pending ≡ true) × (e.descriptor.phase ≤ p)

-- the order of a worker's own, at its loop
abbrev pub OwnOrder : {T : Type 0} → Memory → Ghost T → ℕ → Worker → Type 0
OwnOrder m g w v = Announced m g w v.kind v.own v.phase v.index

abbrev pub OrderFacts : {T : Type 0} → Memory → Ghost T → ℕ → ℕ → Worker → OrderStage → Type 0
OrderFacts m g n w v OrderStage.Scan = Unannounced m g w v.kind v.own × Scanning m g w v.index v.phase
OrderFacts m g n w v OrderStage.Announce = Unannounced m g w v.kind v.own × PhaseChosen m g n w v.phase × (v.index ≡ 0)
OrderFacts m g n w v OrderStage.Look = OwnOrder m g w v
OrderFacts m g n w v OrderStage.Recall = OwnOrder m g w v × (v.kind ≡ OrderKind.Fetch) × (is_pending m w ≡ false) × Passed m g w
OrderFacts m g n w v OrderStage.Follow = OwnOrder m g w v × (v.kind ≡ OrderKind.Fetch) × (is_pending m w ≡ false) × Passed m g w × (node_of m w ≡ Some (named v.node))

abbrev pub InFinishEnq : {T : Type 0} → Memory → Ghost T → ℕ → Worker → Return → Type 0
InFinishEnq m g w v r = FinishingEnq m g w v.kind v.own v.phase v.index r v.tail

abbrev pub FinishEnqFacts : {T : Type 0} → Memory → Ghost T → ℕ → Worker → Return → FinishEnqStage → Type 0
FinishEnqFacts m g w v r FinishEnqStage.E1 = OwnOrder m g w v × HelpingIn m g w v.phase v.index r × (BringsTail r w v.index → (v.kind ≡ OrderKind.Post) × (0 < g.position (named v.own)))
FinishEnqFacts m g w v r FinishEnqStage.E2 = InFinishEnq m g w v r
FinishEnqFacts m g w v r FinishEnqStage.E3 = InFinishEnq m g w v r × IsSuccessor m v.tail v.next
FinishEnqFacts m g w v r FinishEnqStage.E4 = InFinishEnq m g w v r × IsSuccessor m v.tail v.next × ReadByE3 m g v.tail (named v.next) v.saved
FinishEnqFacts m g w v r FinishEnqStage.E5 = InFinishEnq m g w v r × IsSuccessor m v.tail v.next × ReadByE3 m g v.tail (named v.next) v.saved × Unwritten m (m.poster (named v.next)) v.saved (PostOf (named v.next))
FinishEnqFacts m g w v r FinishEnqStage.E6 = InFinishEnq m g w v r × IsSuccessor m v.tail v.next × ReadByE3 m g v.tail (named v.next) v.saved × Unwritten m (m.poster (named v.next)) v.saved (PostOf (named v.next))
FinishEnqFacts m g w v r FinishEnqStage.E7 = InFinishEnq m g w v r × IsSuccessor m v.tail v.next × ReadByE3 m g v.tail (named v.next) v.saved × Unwritten m (m.poster (named v.next)) v.saved (λ e. PostOf (named v.next) e × (e.descriptor.phase ≡ v.kept_phase))
FinishEnqFacts m g w v r FinishEnqStage.E8 = InFinishEnq m g w v r × IsSuccessor m v.tail v.next × (g.position m.tail ≡ g.position v.tail → is_pending m (m.poster (named v.next)) ≡ false)

abbrev pub InFinishDeq : {T : Type 0} → Memory → Ghost T → ℕ → Worker → Return → Type 0
InFinishDeq m g w v r = FinishingDeq m g w v.kind v.own v.phase v.index r v.head

-- as long as the entry of k has the count c and is pending, head stays at h
abbrev pub HeadWaits : Memory → ℕ → ℕ → ℕ → Type 0
HeadWaits m k c h = count_of m k ≡ c → is_pending m k ≡ true → m.head ≡ h

abbrev pub FinishDeqFacts : {T : Type 0} → Memory → Ghost T → ℕ → Worker → Return → FinishDeqStage → Type 0
FinishDeqFacts m g w v r FinishDeqStage.D1 = OwnOrder m g w v × HelpingIn m g w v.phase v.index r × FromDeq r × (BringsHead r → (v.kind ≡ OrderKind.Fetch) × (is_pending m w ≡ false))
FinishDeqFacts m g w v r FinishDeqStage.D2 = InFinishDeq m g w v r
FinishDeqFacts m g w v r FinishDeqStage.D3 = InFinishDeq m g w v r × ReadByD2 m g w r v.head v.next
FinishDeqFacts m g w v r FinishDeqStage.D4 = InFinishDeq m g w v r × ReadByD2 m g w r v.head v.next × (m.taker v.head ≡ Some (named v.taker))
FinishDeqFacts m g w v r FinishDeqStage.D5 = InFinishDeq m g w v r × ReadByD2 m g w r v.head v.next × ReadByD4 m g v.head (named v.taker) v.saved
FinishDeqFacts m g w v r FinishDeqStage.D6 = InFinishDeq m g w v r × IsSuccessor m v.head v.next × ReadByD4 m g v.head (named v.taker) v.saved × Unwritten m (named v.taker) v.saved (FetchOf v.head) × HeadWaits m (named v.taker) v.saved v.head
FinishDeqFacts m g w v r FinishDeqStage.D7 = InFinishDeq m g w v r × IsSuccessor m v.head v.next × ReadByD4 m g v.head (named v.taker) v.saved × Unwritten m (named v.taker) v.saved (λ e. FetchOf v.head e × (e.descriptor.phase ≡ v.kept_phase)) × HeadWaits m (named v.taker) v.saved v.head
FinishDeqFacts m g w v r FinishDeqStage.D8 = InFinishDeq m g w v r × IsSuccessor m v.head v.next × ReadByD4 m g v.head (named v.taker) v.saved × Unwritten m (named v.taker) v.saved (λ e. FetchOf v.head e × (e.descriptor.phase ≡ v.kept_phase) × (v.node ≡ Some v.head)) × HeadWaits m (named v.taker) v.saved v.head
FinishDeqFacts m g w v r FinishDeqStage.D9 = InFinishDeq m g w v r × IsSuccessor m v.head v.next × TakerSettled m g v.head

abbrev pub InHelpEnq : {T : Type 0} → Memory → Ghost T → ℕ → Worker → Type 0
InHelpEnq m g w v = HelpingEnq m g w v.kind v.own v.phase v.index v.tail

abbrev pub HelpEnqFacts : {T : Type 0} → Memory → Ghost T → ℕ → Worker → HelpEnqStage → Type 0
HelpEnqFacts m g w v HelpEnqStage.C1 = OwnOrder m g w v × Helping m g w v.phase v.index OrderKind.Post
HelpEnqFacts m g w v HelpEnqStage.C2 = OwnOrder m g w v × Helping m g w v.phase v.index OrderKind.Post
HelpEnqFacts m g w v HelpEnqStage.P1 = OwnOrder m g w v × Helping m g w v.phase v.index OrderKind.Post
HelpEnqFacts m g w v HelpEnqStage.P2 = InHelpEnq m g w v
HelpEnqFacts m g w v HelpEnqStage.P3 = InHelpEnq m g w v
HelpEnqFacts m g w v HelpEnqStage.C1AfterP3 = InHelpEnq m g w v
HelpEnqFacts m g w v HelpEnqStage.C2AfterP3 = InHelpEnq m g w v × (m.successor v.tail ≡ None → phase_of m v.index ≤ v.phase → is_pending m v.index ≡ true)
HelpEnqFacts m g w v HelpEnqStage.P4 = InHelpEnq m g w v × (m.successor v.tail ≡ None → PendingUpTo v.phase (m.entry v.index))
HelpEnqFacts m g w v HelpEnqStage.P5 = InHelpEnq m g w v × (m.successor v.tail ≡ None → PendingUpTo v.phase (m.entry v.index) × (node_of m v.index ≡ v.node))

abbrev pub InHelpDeq : {T : Type 0} → Memory → Ghost T → ℕ → Worker → Type 0
InHelpDeq m g w v = HelpingDeq m g w v.kind v.own v.phase v.index v.head

abbrev pub Marked : {T : Type 0} → Memory → Ghost T → ℕ → Worker → Type 0
Marked m g w v = SawEmpty m g w v.phase v.index v.t3

abbrev pub HelpDeqFacts : {T : Type 0} → Memory → Ghost T → ℕ → Worker → HelpDeqStage → Type 0
HelpDeqFacts m g w v HelpDeqStage.C1 = OwnOrder m g w v × Helping m g w v.phase v.index OrderKind.Fetch
HelpDeqFacts m g w v HelpDeqStage.C2 = OwnOrder m g w v × Helping m g w v.phase v.index OrderKind.Fetch
HelpDeqFacts m g w v HelpDeqStage.T1 = OwnOrder m g w v × Helping m g w v.phase v.index OrderKind.Fetch
HelpDeqFacts m g w v HelpDeqStage.T2 = InHelpDeq m g w v
HelpDeqFacts m g w v HelpDeqStage.T3 = InHelpDeq m g w v × WasTail m g v.tail × (g.position v.head ≤ g.position v.tail)
HelpDeqFacts m g w v HelpDeqStage.T4 = InHelpDeq m g w v × WasTail m g v.tail × (g.position v.head ≤ g.position v.tail) × (v.next ≡ None → Marked m g w v)

abbrev pub EmptyFacts : {T : Type 0} → Memory → Ghost T → ℕ → Worker → EmptyStage → Type 0
EmptyFacts m g w v EmptyStage.T5 = InHelpDeq m g w v × Marked m g w v × (v.tail ≡ v.head)
EmptyFacts m g w v EmptyStage.T6 = InHelpDeq m g w v × Marked m g w v × (v.tail ≡ v.head) × (v.saved ≤ count_of m v.index)
EmptyFacts m g w v EmptyStage.C1 = InHelpDeq m g w v × Marked m g w v × NamesEarlier m g v.index v.head v.saved
EmptyFacts m g w v EmptyStage.C2 = InHelpDeq m g w v × Marked m g w v × NamesEarlier m g v.index v.head v.saved × Unwritten m v.index v.saved (λ e. e.descriptor.pending ≡ true)
EmptyFacts m g w v EmptyStage.T7 = InHelpDeq m g w v × Marked m g w v × NamesEarlier m g v.index v.head v.saved × Unwritten m v.index v.saved (PendingUpTo v.phase)
EmptyFacts m g w v EmptyStage.T8 = InHelpDeq m g w v × Marked m g w v × NamesEarlier m g v.index v.head v.saved × Unwritten m v.index v.saved (λ e. PendingUpTo v.phase e × (e.descriptor.phase ≡ v.kept_phase))

-- what T9 read, and the node h
abbrev pub ReadClaim : {T : Type 0} → Memory → Ghost T → Worker → Type 0
ReadClaim m g v = ReadByT9 m g v.index v.head v.saved v.node

abbrev pub TakeFacts : {T : Type 0} → Memory → Ghost T → ℕ → Worker → TakeStage → Type 0
TakeFacts m g w v TakeStage.T9 = InHelpDeq m g w v × (g.position v.head < g.position m.tail)
TakeFacts m g w v TakeStage.C1 = InHelpDeq m g w v × ReadClaim m g v × (v.node ≡ Some v.head → m.taker v.head ≡ None → phase_of m v.index ≤ v.phase → is_pending m v.index ≡ true → node_of m v.index ≡ Some v.head)
TakeFacts m g w v TakeStage.C2 = InHelpDeq m g w v × ReadClaim m g v × Unwritten m v.index v.saved (λ e. e.descriptor.pending ≡ true) × (v.node ≡ Some v.head → m.taker v.head ≡ None → phase_of m v.index ≤ v.phase → (is_pending m v.index ≡ true) × (node_of m v.index ≡ Some v.head))
TakeFacts m g w v TakeStage.T10 = InHelpDeq m g w v × ReadClaim m g v × Unwritten m v.index v.saved (PendingUpTo v.phase) × (v.node ≡ Some v.head → m.taker v.head ≡ None → PendingUpTo v.phase (m.entry v.index) × (node_of m v.index ≡ Some v.head))
TakeFacts m g w v TakeStage.T11 = InHelpDeq m g w v × (g.position v.head < g.position m.tail) × NamesEarlier m g v.index v.head v.saved × Unwritten m v.index v.saved (PendingUpTo v.phase)
TakeFacts m g w v TakeStage.T12 = InHelpDeq m g w v × (g.position v.head < g.position m.tail) × NamesEarlier m g v.index v.head v.saved × Unwritten m v.index v.saved (λ e. PendingUpTo v.phase e × (e.descriptor.phase ≡ v.kept_phase))
TakeFacts m g w v TakeStage.T13 = InHelpDeq m g w v × (m.taker v.head ≡ None → PendingUpTo v.phase (m.entry v.index) × (node_of m v.index ≡ Some v.head))

abbrev pub StageFacts : {T : Type 0} → Memory → Ghost T → ℕ → ℕ → Worker → Stage → Type 0
StageFacts m g n w v Stage.Idle = Quiescent m g w
StageFacts m g n w v (Stage.Order a) = OrderFacts m g n w v a
StageFacts m g n w v (Stage.FinishEnq a r) = FinishEnqFacts m g w v r a
StageFacts m g n w v (Stage.FinishDeq a r) = FinishDeqFacts m g w v r a
StageFacts m g n w v (Stage.HelpEnq a) = HelpEnqFacts m g w v a
StageFacts m g n w v (Stage.HelpDeq a) = HelpDeqFacts m g w v a
StageFacts m g n w v (Stage.Empty a) = EmptyFacts m g w v a
StageFacts m g n w v (Stage.Take a) = TakeFacts m g w v a
