-- How far an entry has come is so by the records.
use Rattle.std.proofs.Common.{◌≡◌, ℕ, ◌≤◌, sym}
use Rattle.axp_access.specs.declared.entry_states.EntryState.TheVariants as entry
use Rattle.axp_base.specs.Cpus.{cpu_number}
use Rattle.axp_base.specs.declared.processors.Cpu.{Cpu}
use Rattle.axp_image.specs.Contents.{IsValid}
use Rattle.axp_lsu.specs.EntryStates.{entry_in}
use Rattle.axp_model.specs.EntryStates.{entry_state}
use Rattle.axp_world.proofs.BufferStates.{absent_unwritten, state_agrees}
use Rattle.axp_world.proofs.RunJoined.{joined}
use Rattle.axp_machine.specs.Playing.{actor_of}
use Rattle.axp_machine.specs.Runs.{IsRun, Seen}

-- of a processor that there is not none is written
pub none_written : (m : Seen) (c : Cpu) (n : ℕ) → IsRun m → m.cpus ≤ cpu_number c → entry.Unwritten ≡ entry_state (cpu_number c) n m.records
none_written m c n run past = sym (absent_unwritten m.image m.cpus m.budget m.records (cpu_number c) n run past)

-- what the processor's buffer keeps tells it
pub entry_shown : (m : Seen) (c : Cpu) (n : ℕ) → IsValid m.image → IsRun m → entry_in n (actor_of m (cpu_number c)).kept.buffer ≡ entry_state (cpu_number c) n m.records
entry_shown m c n valid run =
    state_agrees (cpu_number c) n m.records (actor_of m (cpu_number c)).kept.buffer ((joined m.image m.cpus m.budget m.records valid run).buffers (cpu_number c))
