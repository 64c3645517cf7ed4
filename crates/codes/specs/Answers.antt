-- What a function's result stands for: document 01's number for a refusal, or what the call gives.
use Rattle.std.specs.Prelude.{ℕ, Result, Ok, Err}
use Rattle.codes.specs.declared.refusal.Refusal.{Refusal}
use Rattle.codes.specs.declared.refusal.Refusal.TheVariants.{CellOrGroup, BurstType, SpreadingFactor, CodeIndex, Gain, Related, NotOpen, BitCount, BitValue, SlotUnderWay, NoSlot, LengthsDiffer, BurstTypeNot1, SyncCase, FrameOrHalf, LengthChipOrSyncCode, Component, BufferTooShort, NoBestFit}
use Rattle.codes.specs.Refusals.{Answer, refused, gives}

-- the number that document 01 has for each reason
abbrev pub number_of : Refusal → ℕ
number_of CellOrGroup = 1
number_of BurstType = 2
number_of SpreadingFactor = 3
number_of CodeIndex = 4
number_of Gain = 5
number_of Related = 6
number_of NotOpen = 7
number_of BitCount = 8
number_of BitValue = 9
number_of SlotUnderWay = 10
number_of NoSlot = 11
number_of LengthsDiffer = 12
number_of BurstTypeNot1 = 13
number_of SyncCase = 14
number_of FrameOrHalf = 15
number_of LengthChipOrSyncCode = 16
number_of Component = 17
number_of BufferTooShort = 18
number_of NoBestFit = 19

-- a result whose value stands for what f makes of it
abbrev pub answer_by : {A B : Type 0} → (A → B) → Result A Refusal → Answer B
answer_by f (Ok a) = gives (f a)
answer_by f (Err r) = refused (number_of r)

abbrev pub answer_of : {A : Type 0} → Result A Refusal → Answer A
answer_of = answer_by (λ a. a)
