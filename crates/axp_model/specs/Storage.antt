-- Storage: each read and fetch has the bytes of its sources.
use Rattle.std.specs.Prelude.{◌≡◌, ℕ, ◌+◌, ◌^◌, ◌<◌, true, List}
use Rattle.std.specs.List.{AllByRecursion}
use Rattle.axp_base.specs.Parts.{byte}
use Rattle.axp_access.specs.declared.Record.{Record}
use Rattle.axp_model.specs.Accesses.{accesses}
use Rattle.axp_access.specs.Numbering.{NumberedAccess}
use Rattle.axp_model.specs.Sources.{takes_bytes, source_byte, source_value}

-- a read or fetch has the bytes of its sources
abbrev pub HasSources : (ℕ → ℕ) → List Record → NumberedAccess → Type 0
HasSources image h v = takes_bytes v ≡ true → v.access.value ≡ source_value image h v

-- so has each of a history
abbrev pub KeepsStorage : (ℕ → ℕ) → List Record → Type 0
KeepsStorage image h = AllByRecursion (HasSources image h) (accesses h)

-- byte by byte: byte k of the value is that of the source of the k-th address
abbrev pub HasEachSource : (ℕ → ℕ) → List Record → NumberedAccess → Type 0
HasEachSource image h v = takes_bytes v ≡ true → (k : ℕ) → k < v.access.size → byte v.access.value k ≡ source_byte image h v (v.access.address + k)

abbrev pub KeepsEachByte : (ℕ → ℕ) → List Record → Type 0
KeepsEachByte image h = AllByRecursion (HasEachSource image h) (accesses h)

-- a byte of the image is a byte
abbrev pub HasBytes : (ℕ → ℕ) → Type 0
HasBytes image = (at : ℕ) → image at < 2 ^ 8
