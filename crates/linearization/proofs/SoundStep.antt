-- Every counted step of the machine is sound; and a worker has an order in the line exactly if it is not idle.
use Rattle.std.proofs.Common.{◌≡◌, ℕ, ◌<◌, true, false, ◌≢◌, None, refl, arith}
use Rattle.std.proofs.lemmas.Bool.{true≢false, false≢true}
use Rattle.machine.specs.declared.stage.Stage.{Stage}
use Rattle.machine.specs.declared.worker.Worker.{Worker}
use Rattle.machine.specs.Accesses.{access_at}
use Rattle.machine.specs.Calls.{idle_at}
use Rattle.machine.specs.HelpAdvances.{advance_at}
use Rattle.machine.specs.Memory.{Memory, seen_by, left_by}
use Rattle.linearization.proofs.Ghosts.{Ghost, placing_in}
use Rattle.linearization.proofs.MemoryInvariant.{MemoryInvariant}
use Rattle.linearization.proofs.Sound.{Sound}
use Rattle.linearization.proofs.SoundDeq.{sound-finish-deq}
use Rattle.linearization.proofs.SoundEnq.{sound-finish-enq, sound-help-enq}
use Rattle.linearization.proofs.SoundHelpDeq.{sound-help-deq, sound_empty}
use Rattle.linearization.proofs.SoundOrder.{sound-order}
use Rattle.linearization.proofs.SoundTake.{sound-take}
use Rattle.linearization.proofs.StageFacts.{StageFacts}

pub idle-is : (a : Stage) → idle_at a ≡ true → a ≡ Stage.Idle
idle-is Stage.Idle e = refl
idle-is (Stage.Order a) e = absurd (false≢true e)
idle-is (Stage.FinishEnq a r) e = absurd (false≢true e)
idle-is (Stage.FinishDeq a r) e = absurd (false≢true e)
idle-is (Stage.HelpEnq a) e = absurd (false≢true e)
idle-is (Stage.HelpDeq a) e = absurd (false≢true e)
idle-is (Stage.Empty a) e = absurd (false≢true e)
idle-is (Stage.Take a) e = absurd (false≢true e)

module _ {T : Type 0} (n w : ℕ) (m : Memory) (g : Ghost T) where
  -- a worker that is not idle has an order
  pub stage-busy : (v : Worker) (a : Stage) → idle_at a ≡ false → StageFacts m g n w v a → g.order w ≢ None
  stage-busy v a e f h = grind arith

  pub sound : (t : ℕ) → MemoryInvariant m g → w < n → ((k : ℕ) → placing_in (g.order k) < t) → (v : Worker) (a : Stage) → idle_at a ≡ false → StageFacts m g n w v a → Sound n w t m g (left_by m (access_at m.poster w v a)) (advance_at n t v (seen_by m (access_at m.poster w v a)) a)
  sound t i crew low v Stage.Idle e f = absurd (true≢false e)
  sound t i crew low v (Stage.Order a) e f = sound-order n w t m g i crew v a f
  sound t i crew low v (Stage.FinishEnq a r) e f = sound-finish-enq n w t m g i crew v r a f
  sound t i crew low v (Stage.FinishDeq a r) e f = sound-finish-deq n w t m g i crew v r a f
  sound t i crew low v (Stage.HelpEnq a) e f = sound-help-enq n w t m g i crew v a f
  sound t i crew low v (Stage.HelpDeq a) e f = sound-help-deq n w t m g i crew low v a f
  sound t i crew low v (Stage.Empty a) e f = sound_empty n w t m g i crew low v a f
  sound t i crew low v (Stage.Take a) e f = sound-take n w t m g i crew v a f
