-- The numbers that the process ends with.
use Rattle.std.specs.Prelude.{◌≡◌, ◌⊎◌, ℕ, Result, Ok, Err}
use Rattle.std.specs.declared.io.ErrorKind.{ErrorKind}
use Rattle.std.specs.declared.io.ErrorKind.TheVariants as kind
use Rattle.axp_top.specs.Statuses.{number_of_status}
use Rattle.axp_top.specs.declared.status.Status.{Status}
use Rattle.axp_top.specs.declared.status.Status.TheVariants as status

-- the number where the system did not give the words: want of memory has a number of its own
abbrev pub number_without_words : ErrorKind → ℕ
number_without_words kind.OutOfMemory = 11
number_without_words _ = 17

-- the number of a status, or that of words which the system did not give
abbrev pub IsExitNumber : ℕ → Type 0
IsExitNumber n = ((s : Status) × (n ≡ number_of_status s)) ⊎ (n ≡ 17)

-- the number once all that was put is written, or where the writing failed
abbrev pub number_once_flushed : {T E : Type 0} → ℕ → Result T E → ℕ
number_once_flushed served (Ok _) = served
number_once_flushed served (Err _) = number_of_status status.WriteFault
