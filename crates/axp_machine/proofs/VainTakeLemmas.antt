-- When the bus answers that there is nothing.
use Rattle.std.proofs.Common.{◌≡◌, ℕ, ◌<◌, ◌&&◌, Bool, true, false, not, List, [], ◌∷◌, length, Some, None, refl, sym, ap, ◌∙◌}
use Rattle.std.specs.Prelude.{Ok}
use Rattle.axp_base.specs.Cpus.{cpu_number}
use Rattle.axp_base.specs.declared.lines.Bank.{Bank}
use Rattle.axp_base.specs.declared.lines.Bank.TheVariants.{Even, Odd, Code}
use Rattle.axp_base.specs.declared.lines.Line.{Line}
use Rattle.axp_base.specs.declared.processors.Cpu.{Cpu}
use Rattle.axp_bus.specs.Buses.{State}
use Rattle.axp_bus.specs.Ports.{late_for}
use Rattle.axp_bus.proofs.BusCallLemmas.{late_is, none_of_code}
use Rattle.axp_line.specs.declared.messages.Request.TheVariants as request
use Rattle.axp_base.specs.Blocks.{is_allowed}
use Rattle.axp_lsu.specs.declared.asks.Ask2.{Ask2}
use Rattle.axp_lsu.specs.declared.asks.Ask2.TheVariants as ask
use Rattle.axp_line.specs.BusCalls as calls
use Rattle.axp_line.specs.BusCalls.{BusCall}
use Rattle.axp_line.specs.BusReply.{first_late, reply_by}
use Rattle.axp_base.specs.Lists.{is_empty}
use Rattle.axp_base.specs.Lines.{line_at}
use Rattle.axp_world.specs.Worlds.{reply_for}
use Rattle.axp_machine.specs.Playing.{IsTakenInVain, bank_taken, is_nothing}
use Rattle.axp_world.proofs.RunRefusals.{tried_something}

told : (q : Ask2) (image : ℕ → ℕ) (cs : List BusCall) (p : ℕ) → bank_taken q ≡ None → is_nothing (reply_for image cs p (Ok q)) ≡ false
unfolding reply_by
told ask.Private image cs p is = refl
told (ask.Bus (request.Take b)) image cs p is = cc
told (ask.Bus (request.Conditional a s v armed)) image cs p is =
    tried_something (armed && is_allowed a (calls.register p cs)) _ (calls.write_asked (request.Conditional a s v armed)) (line_at a)
told (ask.Bus (request.Fill line)) image cs p is = refl
told (ask.Bus (request.FillCode line)) image cs p is = refl
told (ask.Bus (request.Drain line mask bytes)) image cs p is = refl
told (ask.Bus (request.Locked a)) image cs p is = refl
told (ask.Bus (request.Barrier lines)) image cs p is = refl
told (ask.Bus (request.CodeBarrier lines)) image cs p is = refl
told (ask.Bus (request.Poll below)) image cs p is = refl
told (ask.Bus (request.Signal target)) image cs p is = refl
told (ask.Bus (request.Console byte)) image cs p is = refl

-- no take is in vain but one where nothing is late
pub no_take : (b : State) (cpu : Cpu) (q : Ask2) → None ≡ bank_taken q → IsTakenInVain b cpu q false
no_take b cpu q is image cs stands = sym (told q image cs (cpu_number cpu) (sym is))

first_nothing : (pairs : List (Line × ℕ)) → is_nothing (Some (first_late pairs)) ≡ is_empty pairs
first_nothing [] = refl
first_nothing (x ∷ pairs) = refl

not_not : (b : Bool) → not (not b) ≡ b
not_not true = refl
not_not false = refl

taken : (bank : Bank) (image : ℕ → ℕ) (cs : List BusCall) (p : ℕ) → is_nothing (reply_for image cs p (Ok (ask.Bus (request.Take bank)))) ≡ is_empty (calls.late p bank cs)
unfolding reply_by
taken Even image cs p = first_nothing (calls.late p Even cs)
taken Odd image cs p = first_nothing (calls.late p Odd cs)
taken Code image cs p = sym (ap is_empty (none_of_code p cs))

by_bank : (q : Ask2) (bank : Bank) (image : ℕ → ℕ) (cs : List BusCall) (p : ℕ) → Some bank ≡ bank_taken q → is_nothing (reply_for image cs p (Ok q)) ≡ is_empty (calls.late p bank cs)
by_bank ask.Private bank image cs p is = cc
by_bank (ask.Bus (request.Take b)) bank image cs p is = let same : bank ≡ b = cc in taken b image cs p ∙ ap (λ x. is_empty (calls.late p x cs)) (sym same)
by_bank (ask.Bus _) bank image cs p is = cc

pub late_take : (b : State) (cpu : Cpu) (q : Ask2) (bank : Bank) (late : Bool) → Some bank ≡ bank_taken q → cpu_number cpu < length b.ports
    → late ≡ not (is_empty (late_for (cpu_number cpu) bank b.ports)) → IsTakenInVain b cpu q (not late)
late_take b cpu q bank late is below tells image cs stands =
    ap not tells ∙ not_not (is_empty (late_for (cpu_number cpu) bank b.ports)) ∙ ap is_empty (late_is b image cs (cpu_number cpu) bank stands below)
    ∙ sym (by_bank q bank image cs (cpu_number cpu) is)
