-- Without a fault the whole text comes, or memory was not found.
use Rattle.std.proofs.Common.{◌≡◌, ◌⊎◌, ℕ, ◌<◌, ◌^◌, ◌-◌, refl, inl, inr, arith}
use Rattle.axp_io.specs.Causes.{Appends, raised}
use Rattle.axp_top.specs.declared.status.Status.{Status}
use Rattle.axp_top.specs.declared.status.Status.TheVariants as status
use Rattle.axp_top.specs.Outside.{Outside}
use Rattle.axp_top.specs.Replays.{Answer, text_of}
use Rattle.axp_top.specs.Statuses.{DeskCount, Settles, SinkCount}

-- a count below its last value does not rise to itself
not_risen : (before now : ℕ) → before < 2 ^ 64 - 1 → now ≡ before → now ≡ raised before 1 → ⊥
not_risen before now below same rose = omega (arith, below, rose)

pub whole : (b n : Outside) (a : Answer) (s : Status) → b.desk.faults < 2 ^ 64 - 1 → n.desk.faults ≡ b.desk.faults → b.sink.faults < 2 ^ 64 - 1 → n.sink.faults ≡ b.sink.faults → Settles b n a s → DeskCount b.desk.faults n.desk.faults s → SinkCount b.sink.faults n.sink.faults s
    → ((s ≡ a.status) × Appends b.sink.taken n.sink.taken (text_of a)) ⊎ (s ≡ status.Memory)
whole b n a status.ReadFault db ds kb ks h dc sc = absurd (not_risen b.desk.faults n.desk.faults db ds dc)
whole b n a status.WriteFault db ds kb ks h dc sc = absurd (not_risen b.sink.faults n.sink.faults kb ks sc)
whole b n a status.Memory db ds kb ks h dc sc = inr refl
whole b n a s db ds kb ks h dc sc = inl h
