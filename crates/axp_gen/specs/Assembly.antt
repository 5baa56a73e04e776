-- The instructions of the litmus programs by their mnemonics. A register is its number; of a displacement the low bits are
-- kept, as many as the format has.
use Rattle.std.specs.Prelude.{ℕ, ◌-◌, ◌%◌, ◌^◌}
use Rattle.axp_decode.specs.declared.instructions.Instr.{Instr}
use Rattle.axp_decode.specs.declared.instructions.Instr.TheVariants.{Memory, Branch, Operate, Misc, Pal}
use Rattle.axp_decode.specs.declared.instructions.Operand.TheVariants.{Reg}
use Rattle.axp_decode.specs.declared.names.MemOp.TheVariants.{LDA, LDQ, LDQ_L, STQ, STQ_C}
use Rattle.axp_decode.specs.declared.names.BranchOp.TheVariants.{BLBS, BEQ, BNE}
use Rattle.axp_decode.specs.declared.names.Op.TheVariants.{BIS}
use Rattle.axp_decode.specs.declared.names.MiscOp.TheVariants.{MB}
use Rattle.axp_decode.specs.declared.names.PalOp.TheVariants.{HALT, CSERVE, WRIPIR, WRENT, SWPIPL, RTI}

-- the displacement that goes so many back, in two's complement
abbrev pub back : ℕ → ℕ
back n = 2 ^ 64 - n

-- Ra becomes Rb + displacement, where R31 is always 0
abbrev pub lda : ℕ → ℕ → ℕ → Instr
lda a displacement b = Memory LDA a b (displacement % 2 ^ 16)

-- Ra becomes the quadword at Rb + displacement
abbrev pub ldq : ℕ → ℕ → ℕ → Instr
ldq a displacement b = Memory LDQ a b (displacement % 2 ^ 16)

-- the same, and the line is watched until the store-conditional
abbrev pub ldq_l : ℕ → ℕ → ℕ → Instr
ldq_l a displacement b = Memory LDQ_L a b (displacement % 2 ^ 16)

-- the quadword at Rb + displacement becomes Ra
abbrev pub stq : ℕ → ℕ → ℕ → Instr
stq a displacement b = Memory STQ a b (displacement % 2 ^ 16)

-- the same if the line was left alone; Ra becomes 1 if it was, else 0
abbrev pub stq_c : ℕ → ℕ → ℕ → Instr
stq_c a displacement b = Memory STQ_C a b (displacement % 2 ^ 16)

-- skips so many instructions where Ra is odd
abbrev pub blbs : ℕ → ℕ → Instr
blbs a distance = Branch BLBS a (distance % 2 ^ 21)

-- skips so many instructions where Ra is 0
abbrev pub beq : ℕ → ℕ → Instr
beq a distance = Branch BEQ a (distance % 2 ^ 21)

-- skips so many instructions where Ra is not 0
abbrev pub bne : ℕ → ℕ → Instr
bne a distance = Branch BNE a (distance % 2 ^ 21)

-- Rc becomes the bits that Ra or Rb has
abbrev pub bis : ℕ → ℕ → ℕ → Instr
bis a b c = Operate BIS a (Reg b 0) c

-- the memory barrier
abbrev pub mb : Instr
mb = Misc MB 0 0

-- the processor is finished
abbrev pub halt : Instr
halt = Pal HALT

-- the service that R16 names: 1 prints the character R17
abbrev pub cserve : Instr
cserve = Pal CSERVE

-- signals the processor R16
abbrev pub wripir : Instr
wripir = Pal WRIPIR

-- the entry that R17 numbers becomes R16: 0 is that of interrupts
abbrev pub wrent : Instr
wrent = Pal WRENT

-- the interrupt level becomes R16
abbrev pub swpipl : Instr
swpipl = Pal SWPIPL

-- returns from an interrupt
abbrev pub rti : Instr
rti = Pal RTI
