-- An executable that is read as an image is answered by the image's file.
use Rattle.std.proofs.Common.{◌≡◌, ℕ, cond, List, Option, Some, None, sym, ap, subst}
use Rattle.std.specs.Prelude.{is_none}
use Rattle.axp_elf.specs.Executables as executables
use Rattle.axp_elf.specs.Faults as elf_faults
use Rattle.axp_image.specs.Contents.{Contents}
use Rattle.axp_top.specs.declared.status.Status.{Status}
use Rattle.axp_top.specs.ImageFiles.{elf_answer, elf_answer_by, image_answer}
use Rattle.axp_top.specs.Outside.{SinkState}
use Rattle.axp_top.specs.Printing.{Ends}
use Rattle.axp_top.specs.Replays.{Answer}

by_fault : (f : Option elf_faults.Fault) (c image : Contents) → cond (is_none f) (Some c) None ≡ Some image → image_answer image ≡ elf_answer_by f c
by_fault None c image is = let same : c ≡ image = cc in ap image_answer (sym same)
by_fault (Some f) c image is = cc

read_is : (bytes : List ℕ) (memory stack table : ℕ) (image : Contents) → executables.image_of bytes memory stack table ≡ Some image → image_answer image ≡ elf_answer bytes memory stack table
unfolding executables.image_of
read_is bytes memory stack table image is = by_fault (elf_faults.first_fault bytes memory) (executables.image_in bytes memory stack table) image is

pub ends_read : (b n : SinkState) (bytes : List ℕ) (memory stack table : ℕ) (image : Contents) (s : Status) → executables.image_of bytes memory stack table ≡ Some image → Ends b n (image_answer image) s → Ends b n (elf_answer bytes memory stack table) s
ends_read b n bytes memory stack table image s is h = subst (λ (a : Answer). Ends b n a s) (read_is bytes memory stack table image is) h
