use Rattle.std.proofs.Common.{◌++◌, length, arith, ap, ◌∙◌}
use Rattle.axp_trace.proofs.DigitLemmas.{length-hex}
use Rattle.axp_source.proofs.NumberLemmas.{value_length, value_tail}
use Rattle.axp_source.proofs.numbers.push_hex.Goals as goal

pub last_bytes-requires : goal.last_bytes-requires
last_bytes-requires c = omega (arith, value_length c.as_slice.result.now c.args.n (c.as_slice.ensures.value ∙ c.write_value-value.ensures))

pub push_all-requires : goal.push_all-requires
push_all-requires c = omega (arith, ap length (c.last_bytes.ensures ∙ value_tail c.as_slice.result.now c.args.digits c.args.n c.requires.few (c.as_slice.ensures.value ∙ c.write_value-value.ensures)), length-hex c.args.digits c.args.n)

pub returns-clause-text : goal.returns-clause-text
returns-clause-text c = c.push_all.ensures.text ∙ ap (λ t. c.args.out.now.items ++ t) (c.last_bytes.ensures ∙ value_tail c.as_slice.result.now c.args.digits c.args.n c.requires.few (c.as_slice.ensures.value ∙ c.write_value-value.ensures))

pub returns-clause-len : goal.returns-clause-len
returns-clause-len c = omega (arith, c.push_all.ensures.len, ap length (c.last_bytes.ensures ∙ value_tail c.as_slice.result.now c.args.digits c.args.n c.requires.few (c.as_slice.ensures.value ∙ c.write_value-value.ensures)), length-hex c.args.digits c.args.n)
