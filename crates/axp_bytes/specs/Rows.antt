-- The rows of opcode 12 (hexadecimal), byte manipulation and shifts: what Rc becomes. a is the value of
-- Ra, b that of Rb or the literal.
use Rattle.std.specs.Prelude.{◌≡◌, ℕ, ◌*◌, ◌/◌, ◌%◌, ◌^◌}
use Rattle.axp_base.specs.Numbers.{complement}
use Rattle.axp_base.specs.declared.sizes.Size.TheVariants.{Byte, Word, Long, Quad}
use Rattle.axp_bytes.specs.Results.{extracted_low, extracted_high, inserted_low, inserted_high, masked_low, masked_high, zapped, shifted_arithmetic}
use Rattle.axp_decode.specs.Table.{operate_opcode}
use Rattle.axp_decode.specs.declared.names.Op.{Op}
use Rattle.axp_decode.specs.declared.numbers.TheConstants.{BYTE_OPCODE}
use Rattle.axp_decode.specs.declared.names.Op.TheVariants.{EXTBL, EXTWL, EXTLL, EXTQL, EXTWH, EXTLH, EXTQH, INSBL, INSWL, INSLL, INSQL, INSWH, INSLH, INSQH, MSKBL, MSKWL, MSKLL, MSKQL, MSKWH, MSKLH, MSKQH, ZAP, ZAPNOT, SLL, SRL, SRA}

-- the instructions of opcode 12
abbrev pub IsByteOp : Op → Type 0
IsByteOp op = operate_opcode op ≡ BYTE_OPCODE

unfoldable pub value_of : Op → ℕ → ℕ → ℕ
-- extract the part of a datum that one quadword holds
value_of EXTBL a b = extracted_low Byte a (b % 8)
value_of EXTWL a b = extracted_low Word a (b % 8)
value_of EXTLL a b = extracted_low Long a (b % 8)
value_of EXTQL a b = extracted_low Quad a (b % 8)
value_of EXTWH a b = extracted_high Word a (b % 8)
value_of EXTLH a b = extracted_high Long a (b % 8)
value_of EXTQH a b = extracted_high Quad a (b % 8)
-- move a datum to its place in a quadword
value_of INSBL a b = inserted_low Byte a (b % 8)
value_of INSWL a b = inserted_low Word a (b % 8)
value_of INSLL a b = inserted_low Long a (b % 8)
value_of INSQL a b = inserted_low Quad a (b % 8)
value_of INSWH a b = inserted_high Word a (b % 8)
value_of INSLH a b = inserted_high Long a (b % 8)
value_of INSQH a b = inserted_high Quad a (b % 8)
-- clear that place
value_of MSKBL a b = masked_low Byte a (b % 8)
value_of MSKWL a b = masked_low Word a (b % 8)
value_of MSKLL a b = masked_low Long a (b % 8)
value_of MSKQL a b = masked_low Quad a (b % 8)
value_of MSKWH a b = masked_high Word a (b % 8)
value_of MSKLH a b = masked_high Long a (b % 8)
value_of MSKQH a b = masked_high Quad a (b % 8)
-- clear bytes
value_of ZAP a b = zapped 8 a b
value_of ZAPNOT a b = zapped 8 a (complement b)
-- shifts
value_of SLL a b = a * 2 ^ (b % 64) % 2 ^ 64
value_of SRL a b = a / 2 ^ (b % 64)
value_of SRA a b = shifted_arithmetic a (b % 64)
-- the other opcodes have no row here
value_of _ a b = 0
