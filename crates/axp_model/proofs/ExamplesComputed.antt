-- The examples, each by computation.
use Rattle.std.proofs.Common.{refl}
use Rattle.axp_base.specs.Parts.{number_at}
use Rattle.axp_access.specs.Order.{key_before}
use Rattle.axp_model.specs.Legal.{legal}
use Rattle.axp_model.specs.Outcomes.{outcome_of}
use Rattle.axp_model.specs.Examples.{StoreBuffering, MixedSources, Merging, EntriesRoundWriteBarrier, WriteBarrierBetween, YoungerGroupWaits, FullBuffer, RoomAfterDrain, DependentLoad, TakenInTime, ReadWantsCopy, BarrierBetween, DroppedAndFilled, OneDropAStep, SignalIsATurn, SignalBehindBarrier, LockRange, AnotherBlock, OwnStoreWaits, OwnStoreDrained, CodeAfterMb, CodeAfterImb}

pub store_buffering : StoreBuffering
unfolding legal outcome_of key_before number_at
store_buffering = refl

pub mixed_sources : MixedSources
unfolding legal outcome_of key_before number_at
mixed_sources = refl

pub merging : Merging
unfolding legal outcome_of key_before number_at
merging = refl

pub write_barrier_between : WriteBarrierBetween
unfolding legal outcome_of key_before number_at
write_barrier_between = refl

pub entries_round_write_barrier : EntriesRoundWriteBarrier
entries_round_write_barrier = (refl, refl)

pub younger_group_waits : YoungerGroupWaits
unfolding legal outcome_of key_before number_at
younger_group_waits = (refl, refl)

pub full_buffer : FullBuffer
unfolding legal outcome_of key_before number_at
full_buffer = (refl, refl)

pub room_after_drain : RoomAfterDrain
unfolding legal outcome_of key_before number_at
room_after_drain = refl

pub dependent_load : DependentLoad
unfolding legal outcome_of key_before number_at
dependent_load = refl

pub taken_in_time : TakenInTime
unfolding legal outcome_of key_before number_at
taken_in_time = refl

pub read_wants_copy : ReadWantsCopy
unfolding legal outcome_of key_before number_at
read_wants_copy = (refl, refl)

pub barrier_between : BarrierBetween
unfolding legal outcome_of key_before number_at
barrier_between = refl

pub lock_range : LockRange
unfolding legal outcome_of key_before number_at
lock_range = refl

pub another_block : AnotherBlock
unfolding legal outcome_of key_before number_at
another_block = refl

pub own_store_waits : OwnStoreWaits
unfolding legal outcome_of key_before number_at
own_store_waits = (refl, refl)

pub own_store_drained : OwnStoreDrained
unfolding legal outcome_of key_before number_at
own_store_drained = refl

pub code_after_mb : CodeAfterMb
unfolding legal outcome_of key_before number_at
code_after_mb = refl

pub code_after_imb : CodeAfterImb
unfolding legal outcome_of key_before number_at
code_after_imb = refl

pub dropped_and_filled : DroppedAndFilled
unfolding legal outcome_of key_before number_at
dropped_and_filled = refl

pub one_drop_a_step : OneDropAStep
unfolding legal outcome_of key_before number_at
one_drop_a_step = (refl, refl)

pub signal_is_a_turn : SignalIsATurn
unfolding legal outcome_of key_before number_at
signal_is_a_turn = refl

pub signal_behind_barrier : SignalBehindBarrier
unfolding legal outcome_of key_before number_at
signal_behind_barrier = (refl, refl)
