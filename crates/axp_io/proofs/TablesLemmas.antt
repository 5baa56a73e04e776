-- What comes of a fetch of a list that the desk has.
use Rattle.std.proofs.Common.{◌≡◌, ℕ, ◌+◌, ◌≤◌, ◌<◌, false, List, length, Result, Ok, Err, min, ap, ◌∙◌, arith}
use Rattle.axp_io.specs.Causes.{raised, Ask, FetchTold}
use Rattle.axp_io.specs.Lists.{NeverFails}
use Rattle.axp_io.specs.Tables.{TableView, asked, with_given, fails_at, TableFetch}
use Rattle.axp_io.specs.declared.FetchFault.{FetchFault}
use Rattle.axp_io.specs.declared.FetchFault.TheVariants as fetch

min_whole : (n most : ℕ) → n ≤ most → min n (most + 1) ≡ n
min_whole n most h = omega arith

min_cut : (n most : ℕ) → most < n → min n (most + 1) ≡ most + 1
min_cut n most h = omega arith

pub table_handed : (before now : TableView) (ask : Ask) (list : List ℕ) (result : Result (List ℕ) FetchFault)
    → fails_at before ask.0 ≡ false → FetchTold list ask.1 result → NeverFails result
    → now ≡ with_given (asked before ask) (raised before.given (min (length list) (ask.1 + 1)))
    → TableFetch before now ask result
table_handed before now ask list (Ok bytes) works told never is = (works, rw told.0 (is ∙ ap (λ n. with_given (asked before ask) (raised before.given n)) (min_whole (length list) ask.1 told.1)))
table_handed before now ask list (Err fetch.Failed) works told never is = absurd never
table_handed before now ask list (Err fetch.TooLong) works told never is = (works, is ∙ ap (λ n. with_given (asked before ask) (raised before.given n)) (min_cut (length list) ask.1 told))
table_handed before now ask list (Err fetch.Memory) works told never is = (ap (λ d. d.lists) is, ap (λ d. d.fails) is, ap (λ d. d.calls) is)
