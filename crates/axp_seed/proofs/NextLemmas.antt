-- The next record of a seeded run.
use Rattle.std.proofs.Common.{◌≡◌, ℕ, true, Some, None, refl}
use Rattle.std.specs.Prelude.{Ok}
use Rattle.axp_access.specs.declared.Act.{Act}
use Rattle.axp_access.specs.declared.Event.{Event}
use Rattle.axp_access.specs.declared.Outcome.{Outcome}
use Rattle.axp_access.specs.declared.offers.Offer.{Offer}
use Rattle.axp_base.specs.Cpus.{cpu_of}
use Rattle.axp_base.specs.declared.processors.Cpu.{Cpu}
use Rattle.axp_machine.specs.Offers.{offer_of}
use Rattle.axp_machine.specs.Runs.{Seen, after_event, answer_of, is_complete, with_record}
use Rattle.axp_machine.specs.Tails.{cpu_at}
use Rattle.axp_pick.specs.Choices.{choice}
use Rattle.axp_pick.specs.Words.{next_word, words_behind}
use Rattle.axp_seed.proofs.TurnLemmas.{no_event}
use Rattle.axp_seed.specs.Seeds.{Seeded, behind, event_of, event_with, next_record, turn_among, working}
use Rattle.rand_pcg.specs.Lcg.{Lcg}

-- a complete machine goes on with nothing
pub none_next : (s : Seeded) → is_complete s.machine ≡ true → next_record s ≡ None
unfolding next_record
none_next s complete = rw (no_event s.machine (next_word s.words) complete) refl

pub stays : (s : Seeded) → is_complete s.machine ≡ true → s ≡ behind s
unfolding behind
stays s complete = rw (none_next s complete) refl

-- the event that is chosen, of the processor of a number
cpu_is : (p : ℕ) (c : Cpu) → cpu_of p ≡ Some c → cpu_at p ≡ c
cpu_is p c is = rw is refl

pub chosen_is : (m : Seen) (word p : ℕ) (c : Cpu) (o : Offer) (a : Act) → Some p ≡ turn_among (working m) word → cpu_of p ≡ Some c → o ≡ offer_of m c → Some a ≡ choice o word → event_of m word ≡ Some (event_with c a)
unfolding event_of
chosen_is m word p c o a turn is offer act =
    rw (← turn, cpu_is p c is, ← offer, ← act) refl

-- and its record
pub next_is : (s : Seeded) (e : Event) (o : Outcome) → event_of s.machine (next_word s.words) ≡ Some e → answer_of s.machine e ≡ Ok o → next_record s ≡ Some (record { event = e; outcome = o })
unfolding next_record
next_is s e o chosen answer = rw (chosen, answer) refl

after_is : (m : Seen) (e : Event) (o : Outcome) → answer_of m e ≡ Ok o → after_event m e ≡ with_record m (record { event = e; outcome = o })
unfolding after_event
after_is m e o answer = rw answer refl

pub behind_is : (s : Seeded) (e : Event) (o : Outcome) (m : Seen) (w : Lcg) → event_of s.machine (next_word s.words) ≡ Some e → answer_of s.machine e ≡ Ok o → m ≡ after_event s.machine e → w ≡ words_behind s.words → record { machine = m; words = w } ≡ behind s
unfolding behind
behind_is s e o m w chosen answer after words = rw (next_is s e o chosen answer, after, after_is s.machine e o answer, words) refl
