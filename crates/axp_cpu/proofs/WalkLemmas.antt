-- What a walk does: the entry of a page is kept exactly where the access goes on, and no register changes.
use Rattle.std.proofs.Common.{◌≡◌, ℕ, refl}
use Rattle.std.specs.Prelude.{Result, Ok, Err}
use Rattle.axp_pte.specs.Entries.{pte_of}
use Rattle.axp_pte.specs.declared.entries.Pte.{Pte}
use Rattle.axp_pte.specs.declared.faults.MmFault.{MmFault}
use Rattle.axp_pte.specs.declared.faults.Way.{Way}
use Rattle.axp_pte.specs.declared.faults.Way.TheVariants as way
use Rattle.axp_cpu.specs.declared.cpu_states.CpuState.{CpuState}
use Rattle.axp_cpu.specs.declared.translation.Level.{Level}
use Rattle.axp_cpu.specs.declared.translation.Level.TheVariants as level
use Rattle.axp_cpu.specs.declared.translation.MappedAsk.{MappedAsk}
use Rattle.axp_cpu.specs.Phases.{kept_at, kept_by}
use Rattle.axp_cpu.specs.Plans.{Plan}
use Rattle.axp_cpu.specs.Translation.{frame_of, frame_plan, framed_by, way_of, with_kept, with_page_kept}

-- an entry that does not allow the access leads nowhere, so it does not matter that it is not kept
pub kept_framed : (o : Result ℕ MmFault) (size : ℕ) (t : CpuState) (far : MappedAsk) (k : CpuState → ℕ → Plan) (word : ℕ)
    → framed_by (kept_by o far word t) far o (frame_plan size (kept_by o far word t) far k) ≡ framed_by t far o (frame_plan size (with_page_kept far word t) far k)
kept_framed (Ok frame) size t far k word = refl
kept_framed (Err fault) size t far k word = refl

kept_state : (w : Way) (page : ℕ) (pte : Pte) (t : CpuState) → (with_kept w page pte t).state ≡ t.state
kept_state way.Fetch page pte t = refl
kept_state way.Load page pte t = refl
kept_state way.Store page pte t = refl

kept_by_state : (o : Result ℕ MmFault) (far : MappedAsk) (word : ℕ) (t : CpuState) → (kept_by o far word t).state ≡ t.state
kept_by_state (Ok frame) far word t = kept_state (way_of far.ask.kind) _ (pte_of word) t
kept_by_state (Err fault) far word t = refl

pub kept_at_state : (l : Level) (far : MappedAsk) (word : ℕ) (t : CpuState) → (kept_at l far word t).state ≡ t.state
kept_at_state level.First far word t = refl
kept_at_state level.Second far word t = refl
kept_at_state level.Third far word t = kept_by_state (frame_of t far word) far word t
