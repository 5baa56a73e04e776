-- Lines worked out by hand.
use Rattle.std.proofs.Common.{◌≡◌, codes, Some, None, refl}
use Rattle.std.specs.Fmt.{digits}
use Rattle.axp_trace.specs.Digits.{hex}
use Rattle.axp_decode.specs.declared.instructions.Instr.TheVariants as instr
use Rattle.axp_decode.specs.declared.instructions.Operand.TheVariants.{Literal, Reg}
use Rattle.axp_decode.specs.declared.names.BranchOp.TheVariants.{BEQ, BNE}
use Rattle.axp_decode.specs.declared.names.MemOp.TheVariants.{LDQ_L, STQ}
use Rattle.axp_decode.specs.declared.names.Op.TheVariants.{ADDLV, ADDQ}
use Rattle.axp_source.specs.Items.{Directs, Label, Instruction, BranchTo}
use Rattle.axp_source.specs.Names.{memory_named, branch_named, operate_named, misc_named, jump_named}
use Rattle.axp_source.specs.Fields.{number_in, hex_in}
use Rattle.axp_source.specs.Reading.{item_of}
use Rattle.axp_source.specs.Texts.{instr_text, directive_text}
use Rattle.axp_source.specs.declared.statements.Directive.TheVariants as directive

pub entry : item_of (codes ".entry FFFFFC0000002000") ≡ Some (Directs (directive.Entry 18446739675663048704))
unfolding item_of hex_in number_in directive_text hex digits
entry = refl

pub label : item_of (codes "again:") ≡ Some (Label (codes "again"))
unfolding item_of
label = refl

pub memory : item_of (codes "LDQ_L R1,0(R30)") ≡ Some (Instruction (instr.Memory LDQ_L 1 30 0))
unfolding item_of number_in instr_text digits branch_named memory_named
memory = refl

pub negative : item_of (codes "STQ R2,-8(R30)") ≡ Some (Instruction (instr.Memory STQ 2 30 65528))
unfolding item_of number_in instr_text digits branch_named memory_named
negative = refl

pub branch : item_of (codes "BEQ R1,-5") ≡ Some (Instruction (instr.Branch BEQ 1 2097147))
unfolding item_of number_in instr_text digits branch_named
branch = refl

pub branch_to : item_of (codes "BNE R1,again") ≡ Some (BranchTo BNE 1 (codes "again"))
unfolding item_of number_in digits branch_named
branch_to = refl

pub jump : item_of (codes "RET R31,(R26),1") ≡ Some (Instruction (instr.Jump 2 31 26 1))
unfolding item_of number_in instr_text digits branch_named memory_named misc_named operate_named jump_named
jump = refl

pub literal : item_of (codes "ADDQ R1,#1,R1") ≡ Some (Instruction (instr.Operate ADDQ 1 (Literal 1) 1))
unfolding item_of number_in instr_text digits branch_named memory_named misc_named operate_named
literal = refl

pub operate : item_of (codes "ADDL/V R1,R2,R3") ≡ Some (Instruction (instr.Operate ADDLV 1 (Reg 2 0) 3))
unfolding item_of number_in instr_text digits branch_named memory_named misc_named operate_named
operate = refl

pub leading_zero : item_of (codes "ADDQ R01,R2,R3") ≡ None
unfolding item_of number_in instr_text digits branch_named memory_named misc_named operate_named
leading_zero = refl

pub minus_zero : item_of (codes "STQ R2,-0(R30)") ≡ None
unfolding item_of number_in instr_text digits branch_named memory_named
minus_zero = refl

pub two_blanks : item_of (codes "BEQ  R1,-5") ≡ None
unfolding item_of number_in instr_text digits branch_named
two_blanks = refl
