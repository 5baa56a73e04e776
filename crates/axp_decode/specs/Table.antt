-- The names and numbers of the instruction tables. Each number stands once; the way back is a search
-- of the list of names.
use Rattle.std.specs.Prelude.{ℕ, Option, List, [], ◌∷◌, find, ◌==◌, ◌&&◌}
use Rattle.axp_decode.specs.declared.names.MemOp.{MemOp}
use Rattle.axp_decode.specs.declared.names.MemOp.TheVariants.{LDA, LDAH, LDBU, LDWU, LDL, LDQ, LDQ_U, LDL_L, LDQ_L, STB, STW, STL, STQ, STQ_U, STL_C, STQ_C}
use Rattle.axp_decode.specs.declared.names.BranchOp.{BranchOp}
use Rattle.axp_decode.specs.declared.names.BranchOp.TheVariants.{BR, BSR, BLBC, BLBS, BEQ, BNE, BLT, BLE, BGE, BGT}
use Rattle.axp_decode.specs.declared.names.MiscOp.{MiscOp}
use Rattle.axp_decode.specs.declared.names.MiscOp.TheVariants.{TRAPB, EXCB, FETCH, FETCH_M, ECB, WH64, MB, WMB, RPCC}
use Rattle.axp_decode.specs.declared.names.PalOp.{PalOp}
use Rattle.axp_decode.specs.declared.names.PalOp.TheVariants.{HALT, DRAINA, CSERVE, WRIPIR, WRFEN, WRVPTPTR, SWPCTX, WRVAL, RDVAL, TBI, WRENT, SWPIPL, RDPS, WRKGP, WRUSP, RDUSP, WHAMI, RETSYS, RTI, BPT, BUGCHK, GENTRAP, CALLSYS, IMB, RDUNIQUE, WRUNIQUE}
use Rattle.axp_decode.specs.declared.names.Op.{Op}
use Rattle.axp_decode.specs.declared.names.Op.TheVariants.{ADDL, SUBL, S4ADDL, S8ADDL, S4SUBL, S8SUBL, ADDQ, SUBQ, S4ADDQ, S8ADDQ, S4SUBQ, S8SUBQ, CMPBGE, CMPULT, CMPULE, CMPEQ, CMPLT, CMPLE, ADDLV, SUBLV, ADDQV, SUBQV, AND, BIC, BIS, ORNOT, XOR, EQV, CMOVLBS, CMOVLBC, CMOVEQ, CMOVNE, CMOVLT, CMOVGE, CMOVLE, CMOVGT, AMASK, IMPLVER, EXTBL, EXTWL, EXTLL, EXTQL, EXTWH, EXTLH, EXTQH, INSBL, INSWL, INSLL, INSQL, INSWH, INSLH, INSQH, MSKBL, MSKWL, MSKLL, MSKQL, MSKWH, MSKLH, MSKQH, ZAP, ZAPNOT, SLL, SRL, SRA, MULL, MULQ, UMULH, MULLV, MULQV, SEXTB, SEXTW}

-- the opcodes of the memory format
abbrev pub memory_number : MemOp → ℕ
memory_number LDA = 0x08
memory_number LDAH = 0x09
memory_number LDBU = 0x0A
memory_number LDWU = 0x0C
memory_number LDL = 0x28
memory_number LDQ = 0x29
memory_number LDQ_U = 0x0B
memory_number LDL_L = 0x2A
memory_number LDQ_L = 0x2B
memory_number STB = 0x0E
memory_number STW = 0x0D
memory_number STL = 0x2C
memory_number STQ = 0x2D
memory_number STQ_U = 0x0F
memory_number STL_C = 0x2E
memory_number STQ_C = 0x2F

abbrev pub all_memory : List MemOp
all_memory = LDA ∷ LDAH ∷ LDBU ∷ LDWU ∷ LDL ∷ LDQ ∷ LDQ_U ∷ LDL_L ∷ LDQ_L ∷ STB ∷ STW ∷ STL ∷ STQ ∷ STQ_U ∷ STL_C ∷ STQ_C ∷ []

unfoldable pub memory_of : ℕ → Option MemOp
memory_of n = find (λ op. memory_number op == n) all_memory

-- the opcodes of the branch format
abbrev pub branch_number : BranchOp → ℕ
branch_number BR = 0x30
branch_number BSR = 0x34
branch_number BLBC = 0x38
branch_number BLBS = 0x3C
branch_number BEQ = 0x39
branch_number BNE = 0x3D
branch_number BLT = 0x3A
branch_number BLE = 0x3B
branch_number BGE = 0x3E
branch_number BGT = 0x3F

abbrev pub all_branch : List BranchOp
all_branch = BR ∷ BSR ∷ BLBC ∷ BLBS ∷ BEQ ∷ BNE ∷ BLT ∷ BLE ∷ BGE ∷ BGT ∷ []

unfoldable pub branch_of : ℕ → Option BranchOp
branch_of n = find (λ op. branch_number op == n) all_branch

-- the function codes of opcode 0x18
abbrev pub misc_number : MiscOp → ℕ
misc_number TRAPB = 0x0000
misc_number EXCB = 0x0400
misc_number FETCH = 0x8000
misc_number FETCH_M = 0xA000
misc_number ECB = 0xE800
misc_number WH64 = 0xF800
misc_number MB = 0x4000
misc_number WMB = 0x4400
misc_number RPCC = 0xC000

abbrev pub all_misc : List MiscOp
all_misc = TRAPB ∷ EXCB ∷ FETCH ∷ FETCH_M ∷ ECB ∷ WH64 ∷ MB ∷ WMB ∷ RPCC ∷ []

unfoldable pub misc_of : ℕ → Option MiscOp
misc_of n = find (λ op. misc_number op == n) all_misc

-- the functions of PALcode, opcode 0x00
abbrev pub pal_number : PalOp → ℕ
pal_number HALT = 0x00
pal_number DRAINA = 0x02
pal_number CSERVE = 0x09
pal_number WRIPIR = 0x0D
pal_number WRFEN = 0x2B
pal_number WRVPTPTR = 0x2D
pal_number SWPCTX = 0x30
pal_number WRVAL = 0x31
pal_number RDVAL = 0x32
pal_number TBI = 0x33
pal_number WRENT = 0x34
pal_number SWPIPL = 0x35
pal_number RDPS = 0x36
pal_number WRKGP = 0x37
pal_number WRUSP = 0x38
pal_number RDUSP = 0x3A
pal_number WHAMI = 0x3C
pal_number RETSYS = 0x3D
pal_number RTI = 0x3F
pal_number BPT = 0x80
pal_number BUGCHK = 0x81
pal_number GENTRAP = 0xAA
pal_number CALLSYS = 0x83
pal_number IMB = 0x86
pal_number RDUNIQUE = 0x9E
pal_number WRUNIQUE = 0x9F

abbrev pub all_pal : List PalOp
all_pal = HALT ∷ DRAINA ∷ CSERVE ∷ WRIPIR ∷ WRFEN ∷ WRVPTPTR ∷ SWPCTX ∷ WRVAL ∷ RDVAL ∷ TBI ∷ WRENT ∷ SWPIPL ∷ RDPS ∷ WRKGP ∷ WRUSP ∷ RDUSP ∷ WHAMI ∷ RETSYS ∷ RTI ∷ BPT ∷ BUGCHK ∷ GENTRAP ∷ CALLSYS ∷ IMB ∷ RDUNIQUE ∷ WRUNIQUE ∷ []

unfoldable pub pal_of : ℕ → Option PalOp
pal_of n = find (λ op. pal_number op == n) all_pal

-- the opcodes of the operate format
abbrev pub operate_opcode : Op → ℕ
operate_opcode ADDL = 0x10
operate_opcode SUBL = 0x10
operate_opcode S4ADDL = 0x10
operate_opcode S8ADDL = 0x10
operate_opcode S4SUBL = 0x10
operate_opcode S8SUBL = 0x10
operate_opcode ADDQ = 0x10
operate_opcode SUBQ = 0x10
operate_opcode S4ADDQ = 0x10
operate_opcode S8ADDQ = 0x10
operate_opcode S4SUBQ = 0x10
operate_opcode S8SUBQ = 0x10
operate_opcode CMPBGE = 0x10
operate_opcode CMPULT = 0x10
operate_opcode CMPULE = 0x10
operate_opcode CMPEQ = 0x10
operate_opcode CMPLT = 0x10
operate_opcode CMPLE = 0x10
operate_opcode ADDLV = 0x10
operate_opcode SUBLV = 0x10
operate_opcode ADDQV = 0x10
operate_opcode SUBQV = 0x10
operate_opcode AND = 0x11
operate_opcode BIC = 0x11
operate_opcode BIS = 0x11
operate_opcode ORNOT = 0x11
operate_opcode XOR = 0x11
operate_opcode EQV = 0x11
operate_opcode CMOVLBS = 0x11
operate_opcode CMOVLBC = 0x11
operate_opcode CMOVEQ = 0x11
operate_opcode CMOVNE = 0x11
operate_opcode CMOVLT = 0x11
operate_opcode CMOVGE = 0x11
operate_opcode CMOVLE = 0x11
operate_opcode CMOVGT = 0x11
operate_opcode AMASK = 0x11
operate_opcode IMPLVER = 0x11
operate_opcode EXTBL = 0x12
operate_opcode EXTWL = 0x12
operate_opcode EXTLL = 0x12
operate_opcode EXTQL = 0x12
operate_opcode EXTWH = 0x12
operate_opcode EXTLH = 0x12
operate_opcode EXTQH = 0x12
operate_opcode INSBL = 0x12
operate_opcode INSWL = 0x12
operate_opcode INSLL = 0x12
operate_opcode INSQL = 0x12
operate_opcode INSWH = 0x12
operate_opcode INSLH = 0x12
operate_opcode INSQH = 0x12
operate_opcode MSKBL = 0x12
operate_opcode MSKWL = 0x12
operate_opcode MSKLL = 0x12
operate_opcode MSKQL = 0x12
operate_opcode MSKWH = 0x12
operate_opcode MSKLH = 0x12
operate_opcode MSKQH = 0x12
operate_opcode ZAP = 0x12
operate_opcode ZAPNOT = 0x12
operate_opcode SLL = 0x12
operate_opcode SRL = 0x12
operate_opcode SRA = 0x12
operate_opcode MULL = 0x13
operate_opcode MULQ = 0x13
operate_opcode UMULH = 0x13
operate_opcode MULLV = 0x13
operate_opcode MULQV = 0x13
operate_opcode SEXTB = 0x1C
operate_opcode SEXTW = 0x1C

-- the functions of the operate format
abbrev pub operate_function : Op → ℕ
operate_function ADDL = 0x00
operate_function SUBL = 0x09
operate_function S4ADDL = 0x02
operate_function S8ADDL = 0x12
operate_function S4SUBL = 0x0B
operate_function S8SUBL = 0x1B
operate_function ADDQ = 0x20
operate_function SUBQ = 0x29
operate_function S4ADDQ = 0x22
operate_function S8ADDQ = 0x32
operate_function S4SUBQ = 0x2B
operate_function S8SUBQ = 0x3B
operate_function CMPBGE = 0x0F
operate_function CMPULT = 0x1D
operate_function CMPULE = 0x3D
operate_function CMPEQ = 0x2D
operate_function CMPLT = 0x4D
operate_function CMPLE = 0x6D
operate_function ADDLV = 0x40
operate_function SUBLV = 0x49
operate_function ADDQV = 0x60
operate_function SUBQV = 0x69
operate_function AND = 0x00
operate_function BIC = 0x08
operate_function BIS = 0x20
operate_function ORNOT = 0x28
operate_function XOR = 0x40
operate_function EQV = 0x48
operate_function CMOVLBS = 0x14
operate_function CMOVLBC = 0x16
operate_function CMOVEQ = 0x24
operate_function CMOVNE = 0x26
operate_function CMOVLT = 0x44
operate_function CMOVGE = 0x46
operate_function CMOVLE = 0x64
operate_function CMOVGT = 0x66
operate_function AMASK = 0x61
operate_function IMPLVER = 0x6C
operate_function EXTBL = 0x06
operate_function EXTWL = 0x16
operate_function EXTLL = 0x26
operate_function EXTQL = 0x36
operate_function EXTWH = 0x5A
operate_function EXTLH = 0x6A
operate_function EXTQH = 0x7A
operate_function INSBL = 0x0B
operate_function INSWL = 0x1B
operate_function INSLL = 0x2B
operate_function INSQL = 0x3B
operate_function INSWH = 0x57
operate_function INSLH = 0x67
operate_function INSQH = 0x77
operate_function MSKBL = 0x02
operate_function MSKWL = 0x12
operate_function MSKLL = 0x22
operate_function MSKQL = 0x32
operate_function MSKWH = 0x52
operate_function MSKLH = 0x62
operate_function MSKQH = 0x72
operate_function ZAP = 0x30
operate_function ZAPNOT = 0x31
operate_function SLL = 0x39
operate_function SRL = 0x34
operate_function SRA = 0x3C
operate_function MULL = 0x00
operate_function MULQ = 0x20
operate_function UMULH = 0x30
operate_function MULLV = 0x40
operate_function MULQV = 0x60
operate_function SEXTB = 0x00
operate_function SEXTW = 0x01

abbrev pub all_operate : List Op
all_operate = ADDL ∷ SUBL ∷ S4ADDL ∷ S8ADDL ∷ S4SUBL ∷ S8SUBL ∷ ADDQ ∷ SUBQ ∷ S4ADDQ ∷ S8ADDQ ∷ S4SUBQ ∷ S8SUBQ ∷ CMPBGE ∷ CMPULT ∷ CMPULE ∷ CMPEQ ∷ CMPLT ∷ CMPLE ∷ ADDLV ∷ SUBLV ∷ ADDQV ∷ SUBQV ∷ AND ∷ BIC ∷ BIS ∷ ORNOT ∷ XOR ∷ EQV ∷ CMOVLBS ∷ CMOVLBC ∷ CMOVEQ ∷ CMOVNE ∷ CMOVLT ∷ CMOVGE ∷ CMOVLE ∷ CMOVGT ∷ AMASK ∷ IMPLVER ∷ EXTBL ∷ EXTWL ∷ EXTLL ∷ EXTQL ∷ EXTWH ∷ EXTLH ∷ EXTQH ∷ INSBL ∷ INSWL ∷ INSLL ∷ INSQL ∷ INSWH ∷ INSLH ∷ INSQH ∷ MSKBL ∷ MSKWL ∷ MSKLL ∷ MSKQL ∷ MSKWH ∷ MSKLH ∷ MSKQH ∷ ZAP ∷ ZAPNOT ∷ SLL ∷ SRL ∷ SRA ∷ MULL ∷ MULQ ∷ UMULH ∷ MULLV ∷ MULQV ∷ SEXTB ∷ SEXTW ∷ []

-- the operate instruction of an opcode and a function
unfoldable pub operate_of : ℕ → ℕ → Option Op
operate_of opcode n = find (λ op. (operate_opcode op == opcode) && (operate_function op == n)) all_operate
