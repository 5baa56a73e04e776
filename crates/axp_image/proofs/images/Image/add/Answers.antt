use Rattle.std.proofs.Common.{◌+◌, ◌<◌, ◌≤◌, length, subst, sym, arith}
use Rattle.axp_image.specs.Contents.{Contents, segment_of, last_end}
use Rattle.axp_image.specs.Seen.{contents_of}
use Rattle.axp_image.specs.declared.limits.TheConstants.{MAX_SEGMENTS}
use Rattle.axp_image.proofs.WritingLemmas.{valid_with}
use Rattle.axp_image.proofs.images.Image.add.Goals as goal

pub invariant_of-self-2 : goal.invariant_of-self-2
invariant_of-self-2 c =
    let s = segment_of c.args.address c.args.bytes.now in
    let seen = sym c.self.view_is in
    let room = subst (λ (m : Contents). length m.segments < MAX_SEGMENTS) seen c.requires.room in
    rw (c.in_ok-push.ensures.items, c.new.ensures, c.in_ok-bytes.ensures) (valid_with (contents_of c.self.inside) s c.self.invariant room (record {
      above = subst (λ (m : Contents). last_end m.segments ≤ c.args.address) seen c.requires.behind;
      not_empty = c.requires.not_empty;
      within = subst (λ (m : Contents). c.args.address + length c.args.bytes.now ≤ m.size) seen c.requires.within;
      bytes = λ i. omega (arith, c.type_inv.bytes i);
    }))
