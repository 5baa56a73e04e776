-- How far an entry has come: by what the write buffer keeps, it is what the records say.
use Rattle.std.proofs.Common.{◌≡◌, ℕ, ◌≤◌, false, eqb, ◌||◌, List, [], ◌∷◌, refl, ap, ◌∙◌, arith}
use Rattle.std.specs.List.{list_any}
use Rattle.std.proofs.lemmas.Bool.{ne_eqb}
use Rattle.axp_access.specs.declared.Record.{Record}
use Rattle.axp_access.specs.declared.entry_states.EntryState.TheVariants as entry
use Rattle.axp_base.specs.Cpus.{cpu_number}
use Rattle.axp_image.specs.Contents.{Contents}
use Rattle.axp_lsu.specs.EntryStates.{entry_in}
use Rattle.axp_model.specs.Entries.{Waiting, buffer, has_number}
use Rattle.axp_model.specs.EntryStates.{entry_state, is_drained, is_written}
use Rattle.axp_model.specs.Records.{is_of}
use Rattle.axp_laws.proofs.EntryStates.{is_made, state_by, state_shown}
use Rattle.axp_wbuf.specs.Pending as pending
use Rattle.axp_wbuf.specs.Pending.{Pending, is_numbered}
use Rattle.axp_world.specs.Worlds.{IsPlayed, world}
use Rattle.axp_world.proofs.BufferEntries.{AreAlike}
use Rattle.axp_world.proofs.BufferSteps.{IsBuffered}
use Rattle.axp_world.proofs.CountEvents.{numbered}

-- the same numbers are kept
numbered_same : (rank : ℕ → ℕ) (n : ℕ) (es : List Pending) (ws : List Waiting) → AreAlike rank es ws → list_any (is_numbered n) es ≡ has_number n ws
numbered_same rank n [] [] alike = refl
numbered_same rank n [] (w ∷ ws) alike = absurd alike
numbered_same rank n (e ∷ es) [] alike = absurd alike
numbered_same rank n (e ∷ es) (w ∷ ws) alike = ap (λ k. eqb k n || list_any (is_numbered n) es) alike.0.entry.number ∙ ap (λ x. eqb w.number n || x) (numbered_same rank n es ws alike.1)

pub state_agrees : (p n : ℕ) (h : List Record) (b : pending.Buffer) → IsBuffered p h b → entry_in n b ≡ entry_state p n h
state_agrees p n h b is =
    ap (λ made. state_by (list_any (is_numbered n) b.kept) (is_made made n)) is.alike.made
    ∙ ap (λ waits. state_by waits (is_made (buffer p h).made n)) (numbered_same is.alike.rank n b.kept (buffer p h).waiting is.alike.entries)
    ∙ state_shown p n h is.fits

-- no record is of a processor that there is not
none_written : (image : Contents) (cpus budget : ℕ) (h : List Record) (p n : ℕ) → IsPlayed image cpus budget h → cpus ≤ p → (is_written p n h ≡ false) × (is_drained p n h ≡ false)
none_written image cpus budget [] p n played past = (refl, refl)
none_written image cpus budget (r ∷ h) p n played past =
    let below = numbered image cpus (world image cpus budget h) r.event r.outcome played.0 in
    let foreign : is_of p r ≡ false = ne_eqb (cpu_number r.event.cpu) p (λ same. absurd (omega (arith, below, past, same))) in
    let rest = none_written image cpus budget h p n played.1 past in
    (rw foreign rest.0, rw foreign rest.1)

pub absent_unwritten : (image : Contents) (cpus budget : ℕ) (h : List Record) (p n : ℕ) → IsPlayed image cpus budget h → cpus ≤ p → entry_state p n h ≡ entry.Unwritten
absent_unwritten image cpus budget h p n played past = let none = none_written image cpus budget h p n played past in rw (none.0, none.1) refl
