-- The desk and the sink that never fail.
use Rattle.std.specs.Prelude.{ℕ, List, []}
use Rattle.axp_io.specs.Causes.{Ask}
use Rattle.axp_io.specs.Lists.{Named}

-- what a desk that never fails is seen as
pub record SureView : Type 0 where
  pub lists : List Named
  pub given : ℕ
  pub asks : List Ask

-- no lists, and nothing was asked for yet
abbrev pub fresh_sure : SureView
fresh_sure = record { lists = []; given = 0; asks = [] }

-- what a sink that never fails is seen as
pub record SureSinkView : Type 0 where
  pub taken : List ℕ
  -- how many pieces it was handed so far
  pub puts : ℕ

-- nothing was taken yet
abbrev pub fresh_sure_sink : SureSinkView
fresh_sure_sink = record { taken = []; puts = 0 }
