-- The desk of named lists in memory, some of whose calls fail.
use Rattle.std.specs.Prelude.{◌≡◌, ◌||◌, ℕ, ◌+◌, Bool, true, false, List, [], ◌∷◌, ◌++◌, length, Result, Ok, Err}
use Rattle.std.specs.Option.{is_none}
use Rattle.axp_io.specs.Calls.{next_call, fails_next}
use Rattle.axp_io.specs.Causes.{raised, Ask}
use Rattle.axp_io.specs.Lists.{Named, list_under}
use Rattle.axp_io.specs.declared.FetchFault.{FetchFault}
use Rattle.axp_io.specs.declared.FetchFault.TheVariants as fetch

-- what a desk of named lists is seen as
pub record TableView : Type 0 where
  pub lists : List Named
  -- the numbers of the calls that fail, where the first call has number 1
  pub fails : List ℕ
  -- how many calls came so far, at most 2 ^ 32 - 1
  pub calls : ℕ
  pub faults : ℕ
  pub given : ℕ
  pub asks : List Ask

-- no lists, and nothing has come yet
abbrev pub fresh_table : List ℕ → TableView
fresh_table fails = record { lists = []; fails = fails; calls = 0; faults = 0; given = 0; asks = [] }

-- the desk with another count of bytes given, or of faults
abbrev pub with_given : TableView → ℕ → TableView
with_given d n = record d { given = n }

abbrev pub with_faults : TableView → ℕ → TableView
with_faults d n = record d { faults = n }

-- whether the next fetch of a name fails: its number is one of those that do, or no list has the name
abbrev pub fails_at : TableView → List ℕ → Bool
fails_at d name = fails_next d.fails d.calls || is_none (list_under d.lists name)

-- the desk once an ask came to it
abbrev pub asked : TableView → Ask → TableView
asked d ask = record d { calls = next_call d.calls; asks = d.asks ++ ask ∷ [] }

-- what comes of a fetch: it fails where it must and then counts a fault, else it counts the bytes given
abbrev pub TableFetch : TableView → TableView → Ask → Result (List ℕ) FetchFault → Type 0
TableFetch before now ask (Ok bytes) = (fails_at before ask.0 ≡ false) × (now ≡ with_given (asked before ask) (raised before.given (length bytes)))
TableFetch before now ask (Err fetch.Failed) = (fails_at before ask.0 ≡ true) × (now ≡ with_faults (asked before ask) (raised before.faults 1))
TableFetch before now ask (Err fetch.TooLong) = (fails_at before ask.0 ≡ false) × (now ≡ with_given (asked before ask) (raised before.given (ask.1 + 1)))
TableFetch before now ask (Err fetch.Memory) = (now.lists ≡ before.lists) × (now.fails ≡ before.fails) × (now.calls ≡ next_call before.calls)
