-- What a desk keeps of its asks.
use Rattle.std.specs.Prelude.{List, map, string_bytes}
use Rattle.axp_io.specs.Causes.{Ask}
use Rattle.axp_io.specs.declared.asks.Asked.{Asked}

-- the asks, each by the bytes of its name
abbrev pub asks_in : List Asked → List Ask
asks_in kept = map (λ a. (string_bytes a.name, a.most)) kept
