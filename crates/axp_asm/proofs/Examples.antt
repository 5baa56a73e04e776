-- Sources worked out by hand.
use Rattle.std.proofs.Common.{◌≡◌, codes, [], ◌∷◌, Ok, Err, refl}
use Rattle.std.specs.Fmt.{digits}
use Rattle.axp_trace.specs.Digits.{hex}
use Rattle.axp_decode.specs.Format.{instr_of, is_floating, word_of}
use Rattle.axp_decode.specs.Table.{branch_of, memory_of, misc_of, operate_of, pal_of}
use Rattle.axp_source.specs.Fields.{hex_in, number_in}
use Rattle.axp_source.specs.Names.{branch_named, memory_named, pal_named}
use Rattle.axp_source.specs.Reading.{item_of}
use Rattle.axp_source.specs.Texts.{branch_text, directive_text, instr_text, label_text}
use Rattle.axp_asm.specs.Laws.{labelled_image, labelled_text, locked_image, locked_text, text_behind}
use Rattle.axp_asm.specs.Heads.{head_of}
use Rattle.axp_asm.specs.Labels.{displacement}
use Rattle.axp_asm.specs.Lines.{said_in}
use Rattle.axp_asm.specs.Listings.{listing}
use Rattle.axp_asm.specs.Sources.{assembled}

pub empty : assembled [] ≡ Err 1
unfolding assembled said_in head_of
empty = refl

pub listed : listing locked_image ≡ locked_text
unfolding listing directive_text instr_text hex digits instr_of memory_of branch_of operate_of misc_of pal_of is_floating
listed = refl

pub read : assembled locked_text ≡ Ok locked_image
unfolding assembled said_in head_of item_of hex_in number_in directive_text instr_text hex digits memory_named branch_named pal_named word_of
read = refl

pub labels : assembled labelled_text ≡ Ok labelled_image
unfolding assembled said_in head_of item_of hex_in number_in directive_text instr_text branch_text label_text hex digits memory_named branch_named pal_named word_of displacement
labels = refl

pub no_segment : assembled (text_behind (codes "halt" ∷ [])) ≡ Err 5
unfolding assembled said_in head_of item_of hex_in number_in directive_text instr_text branch_text label_text hex digits memory_named branch_named pal_named word_of displacement
no_segment = refl

pub no_bytes : assembled (text_behind (codes ".at 00000100" ∷ codes "end:" ∷ [])) ≡ Err 5
unfolding assembled said_in head_of item_of hex_in number_in directive_text instr_text branch_text label_text hex digits memory_named branch_named pal_named word_of displacement
no_bytes = refl

pub no_label : assembled (text_behind (codes ".at 00000100" ∷ codes "BR R31,end" ∷ [])) ≡ Err 6
unfolding assembled said_in head_of item_of hex_in number_in directive_text instr_text branch_text label_text hex digits memory_named branch_named pal_named word_of displacement
no_label = refl

pub two_labels : assembled (text_behind (codes ".at 00000100" ∷ codes "end:" ∷ codes "halt" ∷ codes "end:" ∷ [])) ≡ Err 8
unfolding assembled said_in head_of item_of hex_in number_in directive_text instr_text branch_text label_text hex digits memory_named branch_named pal_named word_of displacement
two_labels = refl

pub no_statement : assembled (text_behind (codes "halt" ∷ codes "halt " ∷ [])) ≡ Err 6
unfolding assembled said_in head_of item_of hex_in number_in directive_text instr_text branch_text label_text hex digits memory_named branch_named pal_named word_of displacement
no_statement = refl
