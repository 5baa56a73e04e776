-- Kinds of access, and the bytes that an access moves.
use Rattle.std.specs.Prelude.{ℕ, ◌+◌, nat_lt, nat_le, Bool, true, false, ◌&&◌, ◌||◌}
use Rattle.axp_regs.specs.declared.asks.Kind.{Kind}
use Rattle.axp_regs.specs.declared.asks.Kind.TheVariants as kind
use Rattle.axp_access.specs.declared.Access.{Access}

-- kinds of access
abbrev pub is_fetch : Kind → Bool
is_fetch kind.Fetch = true
is_fetch _ = false

abbrev pub is_plain_read : Kind → Bool
is_plain_read kind.Read = true
is_plain_read _ = false

-- a read is a plain read or an LDx_L
abbrev pub is_read : Kind → Bool
is_read kind.Read = true
is_read kind.Locked = true
is_read _ = false

abbrev pub is_plain_write : Kind → Bool
is_plain_write kind.Write = true
is_plain_write _ = false

abbrev pub is_locked : Kind → Bool
is_locked kind.Locked = true
is_locked _ = false

abbrev pub is_conditional : Kind → Bool
is_conditional kind.Conditional = true
is_conditional _ = false

abbrev pub is_barrier : Kind → Bool
is_barrier kind.Barrier = true
is_barrier _ = false

abbrev pub is_write_barrier : Kind → Bool
is_write_barrier kind.WriteBarrier = true
is_write_barrier _ = false

abbrev pub is_code_barrier : Kind → Bool
is_code_barrier kind.CodeBarrier = true
is_code_barrier _ = false

abbrev pub is_signal : Kind → Bool
is_signal kind.Signal = true
is_signal _ = false

abbrev pub is_poll : Kind → Bool
is_poll kind.Poll = true
is_poll _ = false

-- an STx_C that succeeds; one that fails is neither a read nor a write
abbrev pub is_success : Access → Bool
is_success a = is_conditional a.kind && a.yes

-- a memory write is a plain write or a successful STx_C, a write a memory write or a signal
abbrev pub is_memory_write : Access → Bool
is_memory_write a = is_plain_write a.kind || is_success a

abbrev pub is_write : Access → Bool
is_write a = is_memory_write a || is_signal a.kind

-- the byte at an address is one of those that the access moves
abbrev pub has_byte : ℕ → Access → Bool
has_byte at a = nat_le a.address at && nat_lt at (a.address + a.size)
