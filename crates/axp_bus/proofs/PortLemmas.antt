-- A call is kept in each port.
use Rattle.std.proofs.Common.{◌≡◌, ℕ, ◌+◌, ◌-◌, ◌<◌, ◌≤◌, eqb, List, [], ◌++◌, ◌∷◌, length, get_or, set, refl, sym, subst, ◌∙◌, arith, ⊎_elim, get_or-set_other, length-set}
use Rattle.std.proofs.lemmas.Bool.{cases_eq, cases_lt}
use Rattle.std.proofs.lemmas.List.{get_or-append_right, get_or_append_left, length-append}
use Rattle.std.proofs.lemmas.Option.{slice_get-get_or, get_or_from_slice_get}
use Rattle.std.proofs.lemmas.Grind.{get_or-set_at}
use Rattle.axp_line.specs.declared.messages.Request.{Request}
use Rattle.axp_line.specs.declared.messages.Reply.{Reply}
use Rattle.axp_bus.specs.Ports.{Noted, PortHasRoom, IsFresh, AreFresh}
use Rattle.axp_bus.specs.Buses.{NotedBelow, HaveRoom}
use Rattle.axp_bus.specs.declared.ports.Port.{Port}

-- an element does not depend on what stands for a missing one
pub any_default : (xs : List Port) (p : ℕ) (d e : Port) → p < length xs → get_or xs p d ≡ get_or xs p e
any_default xs p d e below = get_or_from_slice_get xs p (get_or xs p e) d (slice_get-get_or xs p e below)

below_next : (p n : ℕ) → p < n + 1 → (p ≡ n → ⊥) → p < n
below_next p n less other = omega (arith, less, other)

later_is_another : (p n : ℕ) → n + 1 ≤ p → p ≡ n → ⊥
later_is_another p n from back = omega arith

pub noted_start : (cpu turn : ℕ) (q : Request) (a : Reply) (old : List Port) → NotedBelow 0 cpu turn q a old old
noted_start cpu turn q a old = record { size = refl; done = λ p d none below. absurd (omega arith); left = λ p d from. refl }

pub noted_step : (n cpu turn : ℕ) (q : Request) (a : Reply) (old mid : List Port) (d0 y : Port) → NotedBelow n cpu turn q a old mid → n < length old
    → Noted (eqb cpu n) n turn q a (get_or mid n d0) y → NotedBelow (n + 1) cpu turn q a old (set mid n y)
noted_step n cpu turn q a old mid d0 y sofar below noted =
    let within : n < length mid = omega (arith, sofar.size) in
    record {
      size = length-set mid n y ∙ sofar.size;
      done = λ p d less here.
          ⊎_elim
          (λ same. subst (λ j. Noted (eqb cpu j) j turn q a (get_or old j d) (get_or (set mid n y) j d)) (sym same)
          (rw (get_or-set_at mid n n y d refl within) (subst (λ x. Noted (eqb cpu n) n turn q a x y) (any_default mid n d0 d within ∙ sofar.left n d (omega arith)) noted)))
          (λ other. rw (get_or-set_other mid n p y d other) (sofar.done p d (below_next p n less other) here))
          (cases_eq p n);
      left = λ p d from. get_or-set_other mid n p y d (later_is_another p n from) ∙ sofar.left p d (omega arith);
    }

pub room_at : (n cpu turn : ℕ) (q : Request) (a : Reply) (old mid : List Port) (d : Port) → NotedBelow n cpu turn q a old mid → n < length old → HaveRoom turn old → PortHasRoom turn (get_or mid n d)
room_at n cpu turn q a old mid d sofar below room = rw (sofar.left n d (omega arith)) (room n d below)

-- ports of nothing, one by one
pub fresh_none : (room : ℕ) (ports : List Port) → ports ≡ [] → AreFresh room ports × (length ports ≡ 0)
fresh_none room ports e = rw e (λ p d below. absurd (omega (arith, below)), refl)

pub fresh_more : (room n : ℕ) (ports new : List Port) (port : Port) → AreFresh room ports × (length ports ≡ n) → IsFresh room port → new ≡ ports ++ port ∷ [] → AreFresh room new × (length new ≡ n + 1)
fresh_more room n ports new port sofar fresh more =
    let size = length-append ports (port ∷ []) in
    subst (λ ls. AreFresh room ls × (length ls ≡ n + 1)) (sym more) (
      λ p d below. ⊎_elim
          (λ before. rw (get_or_append_left ports (port ∷ []) d p before) (sofar.0 p d before))
          (λ from.
          let last : p - length ports ≡ 0 = omega (arith, size, below) in
          rw (get_or-append_right ports (port ∷ []) (length ports) p d refl from, last) fresh)
          (cases_lt p (length ports)),
      omega (arith, size, sofar.1),
    )
