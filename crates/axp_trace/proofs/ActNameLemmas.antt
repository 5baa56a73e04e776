-- What the words of an event mean is printed.
use Rattle.std.proofs.Common.{◌≡◌, ℕ, ◌*◌, ◌/◌, ◌^◌, ◌<◌, ◌==◌, nat_lt, Bool, true, false, if◌then◌else◌, List, [], ◌∷◌, codes, Option, Some, None, IfSome, refl, subst, arith}
use Rattle.std.specs.Str.{bytes_eq}
use Rattle.std.proofs.lemmas.Bool.{ltb-true}
use Rattle.axp_base.specs.declared.lines.Bank.{Bank}
use Rattle.axp_base.specs.declared.lines.Bank.TheVariants.{Even, Odd}
use Rattle.axp_base.specs.declared.lines.TheConstants.{LINE_BYTES}
use Rattle.axp_base.specs.declared.processors.Cpu.{Cpu}
use Rattle.axp_access.specs.declared.Act.{Act}
use Rattle.axp_access.specs.declared.Act.TheVariants.{Drain}
use Rattle.axp_access.specs.declared.Event.{Event}
use Rattle.axp_access.specs.declared.TheConstants.{MAX_DRAINS}
use Rattle.axp_access.specs.Spelling.{IsNamed}
use Rattle.axp_trace.specs.Digits.{number_of, hex_number_of}
use Rattle.axp_trace.specs.Fields.{cpu_in, line_by, line_of_number, line_in, bank_in, data_bank_in}
use Rattle.axp_trace.specs.Reading.{bare_act_in, drain_in, take_in, drop_by, act_in, event_by, event_in}

pub either : {A : Type 0} (P : A → Type 0) (t : Bool) (x y : Option A) → IfSome x P → IfSome y P → IfSome (if t then x else y) P
either P true x y p q = p
either P false x y p q = q

named_bare : (verb : List ℕ) → IfSome (bare_act_in verb) IsNamed
named_bare verb =
    either IsNamed (bytes_eq verb (codes "step")) _ _ tt
    (either IsNamed (bytes_eq verb (codes "fill")) _ _ tt
    (either IsNamed (bytes_eq verb (codes "poll")) _ _ tt
    (either IsNamed (bytes_eq verb (codes "tick")) _ _ tt tt)))

named_drain : (n : Option ℕ) → IfSome (drain_in n) IsNamed
named_drain None = tt
named_drain (Some k) = by (nat_lt k MAX_DRAINS) refl
  where
    by : (t : Bool) → nat_lt k MAX_DRAINS ≡ t → IfSome (if t then Some (Drain k) else None) IsNamed
    by true e = ltb-true k MAX_DRAINS e
    by false e = tt

named_take : (n : Option ℕ) → IfSome (take_in (data_bank_in n)) IsNamed
named_take None = tt
named_take (Some n) = by (n == 0) (n == 1)
  where
    by : (even odd : Bool) → IfSome (take_in (if even then Some Even else if odd then Some Odd else None)) IsNamed
    by true odd = tt
    by false true = tt
    by false false = tt

named_drop : (bank : Option Bank) (address : Option ℕ) → IfSome (drop_by bank (line_in address)) IsNamed
named_drop None address = tt
named_drop (Some bank) None = tt
named_drop (Some bank) (Some address) = by (nat_lt address (2 ^ 32)) refl
  where
    low : (t : Bool) (e : nat_lt (address / LINE_BYTES * LINE_BYTES) (2 ^ 64) ≡ t) → address < 2 ^ 32 → IfSome (drop_by (Some bank) (line_by (address / LINE_BYTES) t e)) IsNamed
    low true e small = omega arith
    low false e small = tt

    by : (t : Bool) → nat_lt address (2 ^ 32) ≡ t → IfSome (drop_by (Some bank) (if t then line_of_number (address / LINE_BYTES) else None)) IsNamed
    by true e = low (nat_lt (address / LINE_BYTES * LINE_BYTES) (2 ^ 64)) refl (ltb-true address (2 ^ 32) e)
    by false e = tt

named_act : (words : List (List ℕ)) → IfSome (act_in words) IsNamed
named_act [] = tt
named_act (verb ∷ []) = named_bare verb
named_act (verb ∷ number ∷ []) =
    either IsNamed (bytes_eq verb (codes "drain")) _ _ (named_drain (number_of number))
    (either IsNamed (bytes_eq verb (codes "take")) _ _ (named_take (number_of number)) tt)
named_act (verb ∷ bank ∷ address ∷ []) = either IsNamed (bytes_eq verb (codes "drop")) _ _ (named_drop (bank_in bank) (hex_number_of 8 address)) tt
named_act (verb ∷ bank ∷ address ∷ other ∷ more) = tt

named_by : (cpu : Option Cpu) (act : Option Act) → IfSome act IsNamed → IfSome (event_by cpu act) (λ e. IsNamed e.act)
named_by None act h = tt
named_by (Some cpu) None h = tt
named_by (Some cpu) (Some act) h = h

-- an event that is meant is one that is printed
named_in : (words : List (List ℕ)) → IfSome (event_in words) (λ e. IsNamed e.act)
named_in [] = tt
named_in (cpu ∷ act) = named_by (cpu_in (number_of cpu)) (act_in act) (named_act act)

pub named_event : (words : List (List ℕ)) (e : Event) → event_in words ≡ Some e → IsNamed e.act
named_event words e h = subst (λ o. IfSome o (λ g. IsNamed g.act)) h (named_in words)
