-- What is wrong with an executable, in a person's words.
use Rattle.std.specs.Prelude.{ℕ, List, codes}
use Rattle.axp_elf.specs.declared.faults.ElfField.{ElfField}
use Rattle.axp_elf.specs.declared.faults.ElfField.TheVariants as field

unfoldable pub elf_words : ElfField → List ℕ
elf_words field.Magic = codes "the file does not begin with the magic number of ELF: the byte 7F and the text ELF"
elf_words field.Class = codes "the class is not 2, that of words of 64 bits"
elf_words field.Data = codes "the order of bytes is not 1, that of the lowest byte first"
elf_words field.Version = codes "the version is not 1"
elf_words field.Type = codes "the type is not 2, that of an executable"
elf_words field.Machine = codes "the machine is not 9026 hexadecimal, that of Alpha"
elf_words field.Entry = codes "the entry address is no multiple of 4 within memory, which begins at FFFFFC0000000000"
elf_words field.Headers = codes "the program headers do not have 56 bytes each, or there are more than 512"
elf_words field.Dynamic = codes "a program header asks for dynamic linking: the program must be linked statically"
elf_words field.Segment = codes "a program header is larger in the file than in memory, not in memory, which begins at FFFFFC0000000000, not behind the one before it, or the 65th with bytes in the file"
elf_words field.Short = codes "the file ends inside of a field, a program header or the bytes of one"
