use Rattle.std.proofs.Common.{◌≡◌, true, sym, ◌∙◌}
use Rattle.axp_image.specs.Contents.{byte_in}
use Rattle.axp_check.specs.SourceParts.{is_taking}
use Rattle.axp_check.proofs.StoredBytes.{ends_wrong, goes_on, has_source, source_has, source_within}
use Rattle.axp_check.proofs.storage.wrong_source.Goals as goal

pub source_byte-right-requires-clause-most : goal.source_byte-right-requires-clause-most
source_byte-right-requires-clause-most c =
    let takes : is_taking c.get-access.result ≡ true = sym c.takes_bytes.ensures ∙ c.if-not-takes_bytes.false in
    let has = has_source c.args.list.now c.args.sources.now c.args.n c.loop-k.k c.get-access.result c.requires.sources c.get-access.ensures.value takes c.loop-k-test.true in
    rw c.from.ensures (source_within _ _ _ _ _ has)

pub source_byte-right-requires-clause-inside : goal.source_byte-right-requires-clause-inside
source_byte-right-requires-clause-inside c =
    let takes : is_taking c.get-access.result ≡ true = sym c.takes_bytes.ensures ∙ c.if-not-takes_bytes.false in
    let has = has_source c.args.list.now c.args.sources.now c.args.n c.loop-k.k c.get-access.result c.requires.sources c.get-access.ensures.value takes c.loop-k-test.true in
    rw (c.from.ensures, c.from-in-loop-k.ensures) (source_has _ _ _ _ _ has)

pub returns-then-byte_of-right : goal.returns-then-byte_of-right
returns-then-byte_of-right c =
    let takes : is_taking c.get-access.result ≡ true = sym c.takes_bytes.ensures ∙ c.if-not-takes_bytes.false in
    let has = has_source c.args.list.now c.args.sources.now c.args.n c.loop-k.k c.get-access.result c.requires.sources c.get-access.ensures.value takes c.loop-k-test.true in
    let right = rw (c.from.ensures, c.from-in-loop-k.ensures) at c.source_byte-right.ensures in
    rw c.from.ensures (ends_wrong (byte_in c.args.image.now.segments) c.args.list.now c.args.n c.loop-k.k _ c.get-access.result c.byte_of.result c.source_byte-right.result has c.byte_of.ensures right c.if-byte_of-right.true c.loop-k.invariant)

pub loop-k-preserved : goal.loop-k-preserved
loop-k-preserved c =
    let takes : is_taking c.get-access.result ≡ true = sym c.takes_bytes.ensures ∙ c.if-not-takes_bytes.false in
    let has = has_source c.args.list.now c.args.sources.now c.args.n c.loop-k.k c.get-access.result c.requires.sources c.get-access.ensures.value takes c.loop-k-test.true in
    let right = rw (c.from.ensures, c.from-in-loop-k.ensures) at c.source_byte-right.ensures in
    goes_on (byte_in c.args.image.now.segments) c.args.list.now c.args.n c.loop-k.k _ c.get-access.result c.byte_of.result c.source_byte-right.result has c.byte_of.ensures right c.if-byte_of-right.false c.loop-k.invariant
