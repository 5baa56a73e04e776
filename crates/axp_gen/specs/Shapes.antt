-- The shapes of litmus tests: their names and numbers.
use Rattle.std.specs.Prelude.{ℕ, ◌%◌, ◌==◌, if◌then◌else◌, List, codes}
use Rattle.axp_gen.specs.declared.shapes.Shape.{Shape}
use Rattle.axp_gen.specs.declared.shapes.Shape.TheVariants.{Sb, Dl, Dm, Lock}

-- the word by which a shape is printed
abbrev pub name_of : Shape → List ℕ
name_of Sb = codes "sb"
name_of Dl = codes "dl"
name_of Dm = codes "dm"
name_of Lock = codes "lock"

-- the shape of a number: its remainder by 4 counts the shapes in their order
abbrev pub shape_of : ℕ → Shape
shape_of number =
    let remainder = number % 4 in
    if remainder == 0 then Sb else (if remainder == 1 then Dl else (if remainder == 2 then Dm else Lock))
