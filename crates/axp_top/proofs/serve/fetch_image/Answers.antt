use Rattle.std.proofs.Common.{◌≡◌, Err, Ok, Some, refl, subst, sym}
use Rattle.axp_image.specs.Faults.{Names, first_fault}
use Rattle.axp_image.specs.Grammar.{image_of}
use Rattle.axp_top.proofs.ServingLemmas.{asks_named, files_failed, files_long, files_refused, files_unfound_first, files_unfound_image, image_fetched, told_named}
use Rattle.axp_top.proofs.serve.fetch_image.Goals as goal

pub returns-in-Ok-read_image-clause-fetched : goal.returns-in-Ok-read_image-clause-fetched
returns-in-Ok-read_image-clause-fetched g c =
    image_fetched _ _ _ _ c.in-Ok.bytes c.in-Ok-read_image.image c.in-Ok.ensures.told c.in-Ok.ensures.most
    (subst (λ x. Some c.in-Ok-read_image.image ≡ image_of x) c.as_slice.ensures (sym c.in-Ok-read_image.ensures.read)) c.in-Ok-read_image.ensures.valid
    refl c.in-Ok.ensures.count c.in-Ok.ensures.asks

pub returns-in-Err-Bad-clause-served : goal.returns-in-Err-Bad-clause-served
returns-in-Err-Bad-clause-served g c = λ order same.
    files_refused _ _ _ order c.in-Ok.bytes (c.in-Err-Bad.kind, c.in-Err-Bad.offset) c.refuse_image.result (told_named (g.D.Desk.told c.args.desk.now) c.args.name.now order (Ok c.in-Ok.bytes) same c.in-Ok.ensures.told) c.in-Ok.ensures.most
    (subst (λ x. first_fault x ≡ Some (c.in-Err-Bad.kind, c.in-Err-Bad.offset)) c.as_slice.ensures (subst (Names (first_fault c.as_slice.result.now)) c.in-Err-Bad.field-0-is c.in-Err-Bad.ensures.fault))
    c.in-Ok.ensures.count (asks_named _ _ _ order (Ok c.in-Ok.bytes) same c.in-Ok.ensures.asks) c.refuse_image.ensures

pub returns-in-Err-Failed-clause-served : goal.returns-in-Err-Failed-clause-served
returns-in-Err-Failed-clause-served g c = λ order same.
    files_failed _ _ _ order c.refuse_read_fault.result c.in-Err-Failed.field-0 c.in-Err-Failed.field-0-is c.in-Err-Failed.ensures.count
    (asks_named _ _ _ order (Err c.in-Err-Failed.field-0) same c.in-Err-Failed.ensures.asks) c.refuse_read_fault.ensures

pub returns-in-Err-TooLong-clause-served : goal.returns-in-Err-TooLong-clause-served
returns-in-Err-TooLong-clause-served g c = λ order same.
    files_long _ _ _ order c.refuse_long.result c.in-Err-TooLong.field-0 c.in-Err-TooLong.field-0-is (told_named (g.D.Desk.told c.args.desk.now) c.args.name.now order (Err c.in-Err-TooLong.field-0) same c.in-Err-TooLong.ensures.told) c.in-Err-TooLong.ensures.count
    (asks_named _ _ _ order (Err c.in-Err-TooLong.field-0) same c.in-Err-TooLong.ensures.asks) c.refuse_long.ensures

pub returns-in-Ok-clause-served : goal.returns-in-Ok-clause-served
returns-in-Ok-clause-served g c = λ order same. files_unfound_image _ _ _ order refl c.in-Ok.ensures.count (asks_named _ _ _ order (Ok c.in-Ok.bytes) same c.in-Ok.ensures.asks)

pub returns-clause-served : goal.returns-clause-served
returns-clause-served g c = λ order same.
    files_unfound_first _ _ _ order c.in-Err-Memory.field-0 c.in-Err-Memory.field-0-is refl c.in-Err-Memory.ensures.count
    (asks_named _ _ _ order (Err c.in-Err-Memory.field-0) same c.in-Err-Memory.ensures.asks)
