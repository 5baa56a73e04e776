-- The names of the instructions as a source has them: each once. The way back is a search of the tables' lists.
use Rattle.std.specs.Prelude.{ℕ, Option, List, [], ◌∷◌, codes, find, ◌==◌, if◌then◌else◌}
use Rattle.std.specs.Str.{bytes_eq}
use Rattle.axp_decode.specs.Table.{all_memory, all_branch, all_misc, all_pal, all_operate}
use Rattle.axp_decode.specs.declared.names.MemOp.{MemOp}
use Rattle.axp_decode.specs.declared.names.MemOp.TheVariants.{LDA, LDAH, LDBU, LDWU, LDL, LDQ, LDQ_U, LDL_L, LDQ_L, STB, STW, STL, STQ, STQ_U, STL_C, STQ_C}
use Rattle.axp_decode.specs.declared.names.BranchOp.{BranchOp}
use Rattle.axp_decode.specs.declared.names.BranchOp.TheVariants.{BR, BSR, BLBC, BLBS, BEQ, BNE, BLT, BLE, BGE, BGT}
use Rattle.axp_decode.specs.declared.names.MiscOp.{MiscOp}
use Rattle.axp_decode.specs.declared.names.MiscOp.TheVariants.{TRAPB, EXCB, FETCH, FETCH_M, ECB, WH64, MB, WMB, RPCC}
use Rattle.axp_decode.specs.declared.names.PalOp.{PalOp}
use Rattle.axp_decode.specs.declared.names.PalOp.TheVariants.{HALT, DRAINA, CSERVE, WRIPIR, WRFEN, WRVPTPTR, SWPCTX, WRVAL, RDVAL, TBI, WRENT, SWPIPL, RDPS, WRKGP, WRUSP, RDUSP, WHAMI, RETSYS, RTI, BPT, BUGCHK, GENTRAP, CALLSYS, IMB, RDUNIQUE, WRUNIQUE}
use Rattle.axp_decode.specs.declared.names.Op.{Op}
use Rattle.axp_decode.specs.declared.names.Op.TheVariants.{ADDL, SUBL, S4ADDL, S8ADDL, S4SUBL, S8SUBL, ADDQ, SUBQ, S4ADDQ, S8ADDQ, S4SUBQ, S8SUBQ, CMPBGE, CMPULT, CMPULE, CMPEQ, CMPLT, CMPLE, ADDLV, SUBLV, ADDQV, SUBQV, AND, BIC, BIS, ORNOT, XOR, EQV, CMOVLBS, CMOVLBC, CMOVEQ, CMOVNE, CMOVLT, CMOVGE, CMOVLE, CMOVGT, AMASK, IMPLVER, EXTBL, EXTWL, EXTLL, EXTQL, EXTWH, EXTLH, EXTQH, INSBL, INSWL, INSLL, INSQL, INSWH, INSLH, INSQH, MSKBL, MSKWL, MSKLL, MSKQL, MSKWH, MSKLH, MSKQH, ZAP, ZAPNOT, SLL, SRL, SRA, MULL, MULQ, UMULH, MULLV, MULQV, SEXTB, SEXTW}

-- the memory format
abbrev pub memory_name : MemOp → List ℕ
memory_name LDA = codes "LDA"
memory_name LDAH = codes "LDAH"
memory_name LDBU = codes "LDBU"
memory_name LDWU = codes "LDWU"
memory_name LDL = codes "LDL"
memory_name LDQ = codes "LDQ"
memory_name LDQ_U = codes "LDQ_U"
memory_name LDL_L = codes "LDL_L"
memory_name LDQ_L = codes "LDQ_L"
memory_name STB = codes "STB"
memory_name STW = codes "STW"
memory_name STL = codes "STL"
memory_name STQ = codes "STQ"
memory_name STQ_U = codes "STQ_U"
memory_name STL_C = codes "STL_C"
memory_name STQ_C = codes "STQ_C"

unfoldable pub memory_named : List ℕ → Option MemOp
memory_named name = find (λ op. bytes_eq name (memory_name op)) all_memory

-- the branch format
abbrev pub branch_name : BranchOp → List ℕ
branch_name BR = codes "BR"
branch_name BSR = codes "BSR"
branch_name BLBC = codes "BLBC"
branch_name BLBS = codes "BLBS"
branch_name BEQ = codes "BEQ"
branch_name BNE = codes "BNE"
branch_name BLT = codes "BLT"
branch_name BLE = codes "BLE"
branch_name BGE = codes "BGE"
branch_name BGT = codes "BGT"

unfoldable pub branch_named : List ℕ → Option BranchOp
branch_named name = find (λ op. bytes_eq name (branch_name op)) all_branch

-- the operate format
abbrev pub operate_name : Op → List ℕ
operate_name ADDL = codes "ADDL"
operate_name SUBL = codes "SUBL"
operate_name S4ADDL = codes "S4ADDL"
operate_name S8ADDL = codes "S8ADDL"
operate_name S4SUBL = codes "S4SUBL"
operate_name S8SUBL = codes "S8SUBL"
operate_name ADDQ = codes "ADDQ"
operate_name SUBQ = codes "SUBQ"
operate_name S4ADDQ = codes "S4ADDQ"
operate_name S8ADDQ = codes "S8ADDQ"
operate_name S4SUBQ = codes "S4SUBQ"
operate_name S8SUBQ = codes "S8SUBQ"
operate_name CMPBGE = codes "CMPBGE"
operate_name CMPULT = codes "CMPULT"
operate_name CMPULE = codes "CMPULE"
operate_name CMPEQ = codes "CMPEQ"
operate_name CMPLT = codes "CMPLT"
operate_name CMPLE = codes "CMPLE"
operate_name ADDLV = codes "ADDL/V"
operate_name SUBLV = codes "SUBL/V"
operate_name ADDQV = codes "ADDQ/V"
operate_name SUBQV = codes "SUBQ/V"
operate_name AND = codes "AND"
operate_name BIC = codes "BIC"
operate_name BIS = codes "BIS"
operate_name ORNOT = codes "ORNOT"
operate_name XOR = codes "XOR"
operate_name EQV = codes "EQV"
operate_name CMOVLBS = codes "CMOVLBS"
operate_name CMOVLBC = codes "CMOVLBC"
operate_name CMOVEQ = codes "CMOVEQ"
operate_name CMOVNE = codes "CMOVNE"
operate_name CMOVLT = codes "CMOVLT"
operate_name CMOVGE = codes "CMOVGE"
operate_name CMOVLE = codes "CMOVLE"
operate_name CMOVGT = codes "CMOVGT"
operate_name AMASK = codes "AMASK"
operate_name IMPLVER = codes "IMPLVER"
operate_name EXTBL = codes "EXTBL"
operate_name EXTWL = codes "EXTWL"
operate_name EXTLL = codes "EXTLL"
operate_name EXTQL = codes "EXTQL"
operate_name EXTWH = codes "EXTWH"
operate_name EXTLH = codes "EXTLH"
operate_name EXTQH = codes "EXTQH"
operate_name INSBL = codes "INSBL"
operate_name INSWL = codes "INSWL"
operate_name INSLL = codes "INSLL"
operate_name INSQL = codes "INSQL"
operate_name INSWH = codes "INSWH"
operate_name INSLH = codes "INSLH"
operate_name INSQH = codes "INSQH"
operate_name MSKBL = codes "MSKBL"
operate_name MSKWL = codes "MSKWL"
operate_name MSKLL = codes "MSKLL"
operate_name MSKQL = codes "MSKQL"
operate_name MSKWH = codes "MSKWH"
operate_name MSKLH = codes "MSKLH"
operate_name MSKQH = codes "MSKQH"
operate_name ZAP = codes "ZAP"
operate_name ZAPNOT = codes "ZAPNOT"
operate_name SLL = codes "SLL"
operate_name SRL = codes "SRL"
operate_name SRA = codes "SRA"
operate_name MULL = codes "MULL"
operate_name MULQ = codes "MULQ"
operate_name UMULH = codes "UMULH"
operate_name MULLV = codes "MULL/V"
operate_name MULQV = codes "MULQ/V"
operate_name SEXTB = codes "SEXTB"
operate_name SEXTW = codes "SEXTW"

unfoldable pub operate_named : List ℕ → Option Op
operate_named name = find (λ op. bytes_eq name (operate_name op)) all_operate

-- the miscellaneous instructions
abbrev pub misc_name : MiscOp → List ℕ
misc_name TRAPB = codes "TRAPB"
misc_name EXCB = codes "EXCB"
misc_name FETCH = codes "FETCH"
misc_name FETCH_M = codes "FETCH_M"
misc_name ECB = codes "ECB"
misc_name WH64 = codes "WH64"
misc_name MB = codes "MB"
misc_name WMB = codes "WMB"
misc_name RPCC = codes "RPCC"

unfoldable pub misc_named : List ℕ → Option MiscOp
misc_named name = find (λ op. bytes_eq name (misc_name op)) all_misc

-- the calls of PALcode
abbrev pub pal_name : PalOp → List ℕ
pal_name HALT = codes "halt"
pal_name DRAINA = codes "draina"
pal_name CSERVE = codes "cserve"
pal_name WRIPIR = codes "wripir"
pal_name WRFEN = codes "wrfen"
pal_name WRVPTPTR = codes "wrvptptr"
pal_name SWPCTX = codes "swpctx"
pal_name WRVAL = codes "wrval"
pal_name RDVAL = codes "rdval"
pal_name TBI = codes "tbi"
pal_name WRENT = codes "wrent"
pal_name SWPIPL = codes "swpipl"
pal_name RDPS = codes "rdps"
pal_name WRKGP = codes "wrkgp"
pal_name WRUSP = codes "wrusp"
pal_name RDUSP = codes "rdusp"
pal_name WHAMI = codes "whami"
pal_name RETSYS = codes "retsys"
pal_name RTI = codes "rti"
pal_name BPT = codes "bpt"
pal_name BUGCHK = codes "bugchk"
pal_name GENTRAP = codes "gentrap"
pal_name CALLSYS = codes "callsys"
pal_name IMB = codes "imb"
pal_name RDUNIQUE = codes "rdunique"
pal_name WRUNIQUE = codes "wrunique"

unfoldable pub pal_named : List ℕ → Option PalOp
pal_named name = find (λ op. bytes_eq name (pal_name op)) all_pal

-- the jumps, by their kinds
abbrev pub jump_name : ℕ → List ℕ
jump_name kind = if kind == 0 then codes "JMP" else if kind == 1 then codes "JSR" else if kind == 2 then codes "RET" else codes "JSR_COROUTINE"

unfoldable pub jump_named : List ℕ → Option ℕ
jump_named name = find (λ kind. bytes_eq name (jump_name kind)) (0 ∷ 1 ∷ 2 ∷ 3 ∷ [])
