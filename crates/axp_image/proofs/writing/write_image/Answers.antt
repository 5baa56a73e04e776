use Rattle.std.proofs.Common.{◌≡◌, List, ℕ, Some, subst, sym, append_assoc, ◌∙◌, arith}
use Rattle.std.specs.List.{flat_map}
use Rattle.axp_image.specs.Grammar.{image_of}
use Rattle.axp_image.specs.Spelling.{header_bytes, record_of, bytes_of, spelling}
use Rattle.axp_image.proofs.ReadBackLemmas.{spelling_again}
use Rattle.axp_image.proofs.WritingLemmas.{one_more, all_put}
use Rattle.axp_image.proofs.writing.write_image.Goals as goal

pub loop-n-preserved : goal.loop-n-preserved
loop-n-preserved c = one_more record_of c.args.image.now.segments c.loop-n.n _ _ c.loop-n.file _ c.segment-address.ensures.value c.loop-n.invariant c.in_ok-push_record.ensures

pub loop-n-2-preserved : goal.loop-n-2-preserved
loop-n-2-preserved c = one_more bytes_of c.args.image.now.segments c.loop-n-2.n _ _ c.loop-n-2.file _ c.segment.ensures.value c.loop-n-2.invariant c.in_ok-append.ensures.ok

written : (c : goal.After-loop-n-2) → c.loop-n-2.file ≡ spelling c.args.image.now
unfolding spelling
written c =
    let image = c.args.image.now in
    all_put bytes_of image.segments c.loop-n-2.n _ c.loop-n-2.file (omega (arith, c.segments-n-end-2.ensures.value)) c.loop-n-2.invariant
    ∙ append_assoc (header_bytes image) (flat_map record_of image.segments) (flat_map bytes_of image.segments)

pub returns-clause-file : goal.returns-clause-file
returns-clause-file = written

pub returns-clause-read_back : goal.returns-clause-read_back
returns-clause-read_back c = subst (λ (file : List ℕ). image_of file ≡ Some c.args.image.now) (sym (written c)) (spelling_again c.args.image.now c.segments-n-end-2.ensures.valid)
