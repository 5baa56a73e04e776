-- The programs of the litmus tests. At the start R16 holds the processor's number and R30 the stack word, which is the
-- address of the data but in the spin lock's program.
use Rattle.std.specs.Prelude.{ℕ, List, [], ◌∷◌, map}
use Rattle.axp_decode.specs.Format.{word_of}
use Rattle.axp_decode.specs.declared.instructions.Instr.{Instr}
use Rattle.axp_gen.specs.declared.shapes.Shape.{Shape}
use Rattle.axp_gen.specs.declared.shapes.Shape.TheVariants.{Sb, Dl, Dm, Lock}
use Rattle.axp_gen.specs.Assembly.{back, lda, ldq, ldq_l, stq, stq_c, blbs, beq, bne, bis, mb, halt, cserve, wripir, wrent, swpipl, rti}

-- each processor stores 1 to a line of its own, then loads the other's
unfoldable pub store_buffering : List Instr
store_buffering =
    lda 1 1 31
    ∷ blbs 16 3
    ∷ stq 1 0 30
    ∷ ldq 2 0x40 30
    ∷ halt
    -- processor 1
    ∷ stq 1 0x40 30
    ∷ ldq 2 0 30
    ∷ halt
    ∷ []

-- processor 0 stores 1 and then, behind a barrier, the address of the 1; processor 1 loads the old number, the pointer, and
-- what it points to
unfoldable pub dependent_load : List Instr
dependent_load =
    blbs 16 6
    ∷ lda 1 1 31
    ∷ stq 1 0x40 30
    ∷ mb
    ∷ lda 2 0x40 30
    ∷ stq 2 0 30
    ∷ halt
    -- processor 1
    ∷ ldq 3 0x40 30
    ∷ ldq 4 0 30
    ∷ ldq 5 0 4
    ∷ halt
    ∷ []

-- the same with a barrier between the load of the pointer and the load through it
unfoldable pub dependent_load_with_barrier : List Instr
dependent_load_with_barrier =
    blbs 16 6
    ∷ lda 1 1 31
    ∷ stq 1 0x40 30
    ∷ mb
    ∷ lda 2 0x40 30
    ∷ stq 2 0 30
    ∷ halt
    -- processor 1
    ∷ ldq 3 0x40 30
    ∷ ldq 4 0 30
    ∷ mb
    ∷ ldq 5 0 4
    ∷ halt
    ∷ []

-- each processor adds 1 three times to the counter under the lock; then processor 1 signals processor 0, whose handler
-- prints K, and processor 0 prints the counter as a digit
unfoldable pub spin_lock : List Instr
spin_lock =
    bis 31 16 11
    ∷ lda 10 0x2000 31
    ∷ lda 12 3 31
    -- takes the lock
    ∷ ldq_l 1 0 10
    ∷ bne 1 (back 2)
    ∷ lda 1 1 31
    ∷ stq_c 1 0 10
    ∷ beq 1 (back 5)
    ∷ mb
    -- adds 1
    ∷ ldq 2 0x40 10
    ∷ lda 2 1 2
    ∷ stq 2 0x40 10
    -- gives the lock back
    ∷ mb
    ∷ stq 31 0 10
    ∷ lda 12 (back 1) 12
    ∷ bne 12 (back 13)
    ∷ beq 11 5
    -- processor 1 signals processor 0
    ∷ bis 31 31 16
    ∷ mb
    ∷ wripir
    ∷ halt
    ∷ halt
    -- processor 0 takes interrupts, and waits for one
    ∷ lda 16 (back 0x5F5C) 30
    ∷ bis 31 31 17
    ∷ wrent
    ∷ bis 31 31 16
    ∷ swpipl
    ∷ beq 9 (back 1)
    -- takes the lock
    ∷ ldq_l 1 0 10
    ∷ bne 1 (back 2)
    ∷ lda 1 1 31
    ∷ stq_c 1 0 10
    ∷ beq 1 (back 5)
    ∷ mb
    -- makes a digit of the counter
    ∷ ldq 2 0x40 10
    ∷ lda 17 0x30 2
    -- gives the lock back
    ∷ mb
    ∷ stq 31 0 10
    -- prints the digit
    ∷ lda 16 1 31
    ∷ cserve
    ∷ halt
    -- the handler prints K where the interrupt is a signal
    ∷ bne 16 4
    ∷ lda 9 1 31
    ∷ lda 16 1 31
    ∷ lda 17 0x4B 31
    ∷ cserve
    ∷ rti
    ∷ []

-- the program of a shape
abbrev pub program_of : Shape → List Instr
program_of Sb = store_buffering
program_of Dl = dependent_load
program_of Dm = dependent_load_with_barrier
program_of Lock = spin_lock

-- the words of a shape's program
abbrev pub code_of : Shape → List ℕ
code_of shape = map word_of (program_of shape)
