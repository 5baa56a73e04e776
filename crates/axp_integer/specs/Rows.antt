-- The rows of the operate instructions of opcodes 10, 11, 13 and 1C (hexadecimal): what Rc becomes, and
-- whether the instruction overflows. a is the value of Ra, b that of Rb or the literal, old that of Rc.
use Rattle.std.specs.Prelude.{◌≢◌, ℕ, ◌*◌, ◌/◌, ◌%◌, ◌^◌, Bool, false, not, if◌then◌else◌, nat_lt, nat_le, ◌==◌, ◌||◌, ◌+ℤ◌, ◌-ℤ◌, ◌*ℤ◌, bit_and, bit_or, bit_xor}
use Rattle.axp_base.specs.Numbers.{add, sub, mul, complement, signed, is_negative, sign_extended}
use Rattle.axp_decode.specs.Table.{operate_opcode}
use Rattle.axp_decode.specs.declared.numbers.TheConstants.{BYTE_OPCODE}
use Rattle.axp_decode.specs.declared.names.Op.{Op}
use Rattle.axp_decode.specs.declared.names.Op.TheVariants.{ADDL, SUBL, S4ADDL, S8ADDL, S4SUBL, S8SUBL, ADDQ, SUBQ, S4ADDQ, S8ADDQ, S4SUBQ, S8SUBQ, CMPBGE, CMPULT, CMPULE, CMPEQ, CMPLT, CMPLE, ADDLV, SUBLV, ADDQV, SUBQV, AND, BIC, BIS, ORNOT, XOR, EQV, CMOVLBS, CMOVLBC, CMOVEQ, CMOVNE, CMOVLT, CMOVGE, CMOVLE, CMOVGT, AMASK, IMPLVER, MULL, MULQ, UMULH, MULLV, MULQV, SEXTB, SEXTW}
use Rattle.axp_integer.specs.Results.{longword, signed_longword, is_less, one_if, overflows, bytes_at_least}

-- every instruction of the operate format but those of opcode 12 (hexadecimal), whose rows are in axp_bytes
abbrev pub IsInteger : Op → Type 0
IsInteger op = operate_opcode op ≢ BYTE_OPCODE

unfoldable pub value_of : Op → ℕ → ℕ → ℕ → ℕ
-- sums and differences, of longwords and of quadwords
value_of ADDL a b old = longword (add a b)
value_of SUBL a b old = longword (sub a b)
value_of S4ADDL a b old = longword (add (mul a 4) b)
value_of S8ADDL a b old = longword (add (mul a 8) b)
value_of S4SUBL a b old = longword (sub (mul a 4) b)
value_of S8SUBL a b old = longword (sub (mul a 8) b)
value_of ADDQ a b old = add a b
value_of SUBQ a b old = sub a b
value_of S4ADDQ a b old = add (mul a 4) b
value_of S8ADDQ a b old = add (mul a 8) b
value_of S4SUBQ a b old = sub (mul a 4) b
value_of S8SUBQ a b old = sub (mul a 8) b
value_of ADDLV a b old = longword (add a b)
value_of SUBLV a b old = longword (sub a b)
value_of ADDQV a b old = add a b
value_of SUBQV a b old = sub a b
-- comparisons
value_of CMPBGE a b old = bytes_at_least 8 a b
value_of CMPULT a b old = one_if (nat_lt a b)
value_of CMPULE a b old = one_if (nat_le a b)
value_of CMPEQ a b old = one_if (a == b)
value_of CMPLT a b old = one_if (is_less a b)
value_of CMPLE a b old = one_if (not (is_less b a))
-- logic
value_of AND a b old = bit_and a b
value_of BIC a b old = bit_and a (complement b)
value_of BIS a b old = bit_or a b
value_of ORNOT a b old = bit_or a (complement b)
value_of XOR a b old = bit_xor a b
value_of EQV a b old = bit_xor a (complement b)
-- conditional moves
value_of CMOVLBS a b old = if a % 2 == 1 then b else old
value_of CMOVLBC a b old = if a % 2 == 0 then b else old
value_of CMOVEQ a b old = if a == 0 then b else old
value_of CMOVNE a b old = if a == 0 then old else b
value_of CMOVLT a b old = if is_negative a then b else old
value_of CMOVGE a b old = if is_negative a then old else b
value_of CMOVLE a b old = if is_negative a || (a == 0) then b else old
value_of CMOVGT a b old = if is_negative a || (a == 0) then old else b
-- bit 0 is the byte and word extension, the only one that is implemented; version 2 is that of the 21264
value_of AMASK a b old = b / 2 * 2
value_of IMPLVER a b old = 2
-- products
value_of MULL a b old = longword (mul a b)
value_of MULQ a b old = mul a b
value_of UMULH a b old = a * b / 2 ^ 64
value_of MULLV a b old = longword (mul a b)
value_of MULQV a b old = mul a b
-- sign extension
value_of SEXTB a b old = sign_extended 8 b
value_of SEXTW a b old = sign_extended 16 b
value_of _ a b old = 0

-- the exact result of a /V instruction does not fit: in 32 bits that of the low longwords, else in 64
unfoldable pub overflow_of : Op → ℕ → ℕ → Bool
overflow_of ADDLV a b = overflows 31 (signed_longword a +ℤ signed_longword b)
overflow_of SUBLV a b = overflows 31 (signed_longword a -ℤ signed_longword b)
overflow_of MULLV a b = overflows 31 (signed_longword a *ℤ signed_longword b)
overflow_of ADDQV a b = overflows 63 (signed a +ℤ signed b)
overflow_of SUBQV a b = overflows 63 (signed a -ℤ signed b)
overflow_of MULQV a b = overflows 63 (signed a *ℤ signed b)
overflow_of _ a b = false
