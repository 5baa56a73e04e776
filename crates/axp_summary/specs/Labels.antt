-- What a run of a litmus test showed at its end.
use Rattle.std.specs.Prelude.{ℕ, ◌/◌, ◌==◌, Bool, ◌&&◌, false, if◌then◌else◌, List, [], ◌∷◌, codes, Option, Some, None}
use Rattle.axp_base.specs.declared.parts.TheConstants.{QUADWORD_BYTES}
use Rattle.axp_gen.specs.declared.shapes.Shape.{Shape}
use Rattle.axp_gen.specs.declared.shapes.Shape.TheVariants.{Sb, Dl, Dm, Lock}
use Rattle.axp_machine.specs.Runs.{Seen, quadword_of, table_of}
use Rattle.axp_machine.specs.Tails.{register_of}
use Rattle.axp_summary.specs.declared.labels.Label.{Label}
use Rattle.axp_summary.specs.declared.labels.Label.TheVariants.{ZeroZero, ZeroOne, OneZero, OneOne, Old, New, Weak, Exact, Other}
use Rattle.axp_summary.specs.declared.labels.TheConstants.{ADDED, COUNTER_AT, HALTED_ITSELF, LOADED, OLD_POINTER, POINTED, POINTER}

-- the word by which a label is printed
abbrev pub name_of : Label → List ℕ
name_of ZeroZero = codes "00"
name_of ZeroOne = codes "01"
name_of OneZero = codes "10"
name_of OneOne = codes "11"
name_of Old = codes "old"
name_of New = codes "new"
name_of Weak = codes "weak"
name_of Exact = codes "exact"
name_of Other = codes "other"

-- the labels of a litmus test, in their order
abbrev pub labels_of : Shape → List Label
labels_of Sb = ZeroZero ∷ ZeroOne ∷ OneZero ∷ OneOne ∷ []
labels_of Dl = Old ∷ New ∷ Weak ∷ []
labels_of Dm = Old ∷ New ∷ Weak ∷ []
labels_of Lock = Exact ∷ Other ∷ []

-- by what the two processors loaded
abbrev pub loads_label : ℕ → ℕ → Label
loads_label first second =
    if first == 0 then (if second == 0 then ZeroZero else ZeroOne) else (if second == 0 then OneZero else OneOne)

-- by the pointer that was loaded, and what it pointed to
abbrev pub pointer_label : ℕ → ℕ → Label
pointer_label pointer pointed = if pointer == OLD_POINTER then Old else (if pointed == 1 then New else Weak)

-- a processor halted itself, by its halt code
abbrev pub halted_itself : Option ℕ → Bool
halted_itself None = false
halted_itself (Some code) = code == HALTED_ITSELF

-- by whether both processors halted themselves, and by the counter
abbrev pub counter_label : Bool → ℕ → Label
counter_label halted counter = if halted && counter == ADDED then Exact else Other

-- the label of a run by two processors
abbrev pub label_of : Shape → Seen → Label
label_of Sb m = loads_label (register_of m 0 LOADED) (register_of m 1 LOADED)
label_of Dl m = pointer_label (register_of m 1 POINTER) (register_of m 1 POINTED)
label_of Dm m = pointer_label (register_of m 1 POINTER) (register_of m 1 POINTED)
label_of Lock m =
    counter_label (halted_itself (table_of m 0).halted && halted_itself (table_of m 1).halted) (quadword_of m (COUNTER_AT / QUADWORD_BYTES))
