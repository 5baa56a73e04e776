-- A bus that stands for its calls, and one call more.
use Rattle.std.proofs.Common.{◌≡◌, ℕ, ◌<◌, ◌≤◌, List, [], ◌∷◌, ◌++◌, length, reverse, sym, ap, ◌∙◌, subst, arith, length-append}
use Rattle.std.proofs.lemmas.List.{length-reverse, reverse-append}
use Rattle.axp_bus.specs.Buses.{State}
use Rattle.axp_bus.specs.BusStands.{Stands}
use Rattle.axp_bus.proofs.ReplyLemmas.{turns_most}
use Rattle.axp_bus.proofs.QueueLemmas.{printed_few}
use Rattle.axp_call.proofs.Rightness.{each_right_append}
use Rattle.axp_call.specs.Calls.{EachRight, caller}
use Rattle.axp_image.specs.Contents.{Contents}
use Rattle.axp_line.specs.BusCalls.{BusCall, console, printed_by}
use Rattle.axp_shared.specs.Answers.{IsBusAnswer, start_of}

console_most : (calls : List BusCall) → length (console calls) ≤ length calls
console_most [] = omega arith
console_most (c ∷ cs) =
    let sum = length-append (console cs) (printed_by c.ask) in
    let one = printed_few c.ask in
    let most = console_most cs in
    omega (arith, sum, one, most)

module _ (bus : State) (image : ℕ → ℕ) (calls : List BusCall) where
  -- no more turns were made than calls
  pub turns_left : (room : ℕ) → Stands bus image (reverse calls) → length calls < room
      → bus.turns < room
  turns_left room stands fewer =
      let most = turns_most (reverse calls) in
      let same = length-reverse calls in
      let is = stands.turns in
      omega (arith, fewer, most, same, is)

  -- and no more bytes were printed
  pub bytes_left : (room : ℕ) → Stands bus image (reverse calls) → length calls < room
      → length bus.printed < room
  bytes_left room stands fewer =
      let most = console_most (reverse calls) in
      let same = length-reverse calls in
      let is = ap length stands.printed in
      omega (arith, fewer, most, same, is)

-- the last call is the newest
pub stands_longer : (bus : State) (image : ℕ → ℕ) (calls longer : List BusCall) (c : BusCall)
    → longer ≡ calls ++ c ∷ [] → Stands bus image (c ∷ reverse calls)
    → Stands bus image (reverse longer)
stands_longer bus image calls longer c is stands =
    subst (λ (cs : List BusCall). Stands bus image cs)
    (sym (ap reverse is ∙ reverse-append calls (c ∷ []))) stands

-- each call is right still, where there are as many processors as before
pub right_longer : (image : Contents) (cpus cpus' : ℕ) (calls longer : List BusCall) (c : BusCall)
    → cpus' ≡ cpus → longer ≡ calls ++ c ∷ []
    → EachRight IsBusAnswer (start_of image cpus) calls
    → IsBusAnswer (start_of image cpus) calls (caller c) c.ask c.answer
    → EachRight IsBusAnswer (start_of image cpus') longer
right_longer image cpus cpus' calls longer c same is right now =
    subst (λ (n : ℕ). EachRight IsBusAnswer (start_of image n) longer) (sym same)
    (subst (EachRight IsBusAnswer (start_of image cpus)) (sym is)
    (each_right_append IsBusAnswer (start_of image cpus) calls c right now))
