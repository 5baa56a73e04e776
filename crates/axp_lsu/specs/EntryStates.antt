-- How far an entry has come, by what the write buffer keeps.
use Rattle.std.specs.Prelude.{ℕ, nat_lt, nat_le, ◌&&◌, if◌then◌else◌}
use Rattle.std.specs.List.{list_any}
use Rattle.axp_access.specs.declared.entry_states.EntryState.{EntryState}
use Rattle.axp_access.specs.declared.entry_states.EntryState.TheVariants as entry
use Rattle.axp_wbuf.specs.Pending.{Buffer, is_numbered}

-- entry n waits while it is kept; of those made, which are numbered from 1, the others are drained
abbrev pub entry_in : ℕ → Buffer → EntryState
entry_in n b = if list_any (is_numbered n) b.kept then entry.Waiting else (if nat_lt 0 n && nat_le n b.made then entry.Drained else entry.Unwritten)
