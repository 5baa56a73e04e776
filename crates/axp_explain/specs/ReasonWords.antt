-- Why an event is not legal, in a person's words.
use Rattle.std.specs.Prelude.{ℕ, List, codes}
use Rattle.axp_lsu.specs.declared.reasons.Reason.{Reason}
use Rattle.axp_lsu.specs.declared.reasons.Reason.TheVariants as reason

unfoldable pub reason_words : Reason → List ℕ
reason_words reason.NoProcessor = codes "the machine has no processor of this number"
reason_words reason.Finished = codes "the processor is finished (halted, or its budget of steps made), and may drain alone"
reason_words reason.AfterFill = codes "the processor filled a line, and its step must come next"
reason_words reason.NotAtBoundary = codes "the processor is not at a boundary: it is between two accesses of one instruction or entry"
reason_words reason.NothingWanted = codes "there is nothing to fill: the processor's next step makes no access"
reason_words reason.NoCopyWanted = codes "there is nothing to fill: the processor's next access takes no copy of a line"
reason_words reason.LineHeld = codes "a fill of a line that the bank holds"
reason_words reason.BankFull = codes "the bank is full: it holds 16 lines, and none of them is this one"
reason_words reason.LineNotHeld = codes "a read of a line that the bank does not hold: a fill must come before it"
reason_words reason.BufferFull = codes "the write buffer is full: it has 8 entries, and none takes this write"
reason_words reason.LineWaits = codes "a write of the same line waits in the write buffer: it must be drained before"
reason_words reason.OlderGroupWaits = codes "a write from before a write barrier waits in the write buffer: it must be drained before"
reason_words reason.WriteWaits = codes "a barrier while a write waits in the write buffer: it must be drained before"
reason_words reason.PastOldestGroup = codes "a drain past the oldest group of the write buffer: the group has no entry of this number"
reason_words reason.NothingLate = codes "there is nothing to take: no invalidation is late for this bank"
reason_words reason.CopyNotHeld = codes "a drop of a line that the bank does not hold"
reason_words reason.DroppedSinceStep = codes "a second drop from this bank since the processor's last step"
reason_words reason.PolledSinceStep = codes "a second poll since the processor's last step"
reason_words reason.InterruptsMasked = codes "the processor takes no interrupt: its interrupt level is 5 or above"
reason_words reason.TickedSinceStep = codes "a second tick since the processor's last step"
