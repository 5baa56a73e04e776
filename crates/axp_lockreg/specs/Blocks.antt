-- Memory is locked by aligned blocks of LOCK_BYTES bytes.
use Rattle.std.specs.Prelude.{ℕ, Option}
use Rattle.axp_lockreg.specs.declared.registers.LockReg.{LockReg}

-- a register is seen as the number of the block that is locked, if one is
abbrev pub locked_block : LockReg → Option ℕ
locked_block r = r.block
