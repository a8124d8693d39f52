-- The number of each refusal: the one place where cases and numbers meet.
use Rattle.std.specs.Prelude.{ℕ}
use Rattle.vocabulary.specs.declared.refusal.Refusal.{Refusal}
use Rattle.vocabulary.specs.declared.refusal.Refusal.TheVariants.{CrewSize, UnknownWorker, UnansweredOrder, NoFreeNode, StepsUsedUp, OtherCrew, FrameLength, ForeignWorker, WorkerLeftOut, Format, OutputFull}

abbrev pub number_of : Refusal → ℕ
number_of CrewSize = 1
number_of UnknownWorker = 2
number_of UnansweredOrder = 3
number_of NoFreeNode = 4
number_of StepsUsedUp = 5
number_of OtherCrew = 6
number_of FrameLength = 7
number_of ForeignWorker = 8
number_of WorkerLeftOut = 9
number_of Format = 10
number_of OutputFull = 11
