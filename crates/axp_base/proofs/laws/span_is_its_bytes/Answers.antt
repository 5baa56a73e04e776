use Rattle.axp_base.proofs.SpanLemmas.{byte_place, span_has, span_only}
use Rattle.axp_base.proofs.laws.span_is_its_bytes.Goals as goal

pub returns-clause-one_line : goal.returns-clause-one_line
returns-clause-one_line c = λ address size i sized aligned below. (byte_place address size i sized aligned below).0

pub returns-clause-each : goal.returns-clause-each
returns-clause-each c = span_has

pub returns-clause-only : goal.returns-clause-only
returns-clause-only c = span_only
