-- An image is seen as its contents, and they are valid.
use Rattle.axp_image.specs.declared.images.Image.TheInside.{Inside}
use Rattle.axp_image.specs.Contents.{Contents, contents, IsValid}

abbrev pub contents_of : Inside → Contents
contents_of a = contents a.size a.entry a.stack a.table a.segments.items

abbrev pub IsSound : Inside → Type 0
IsSound a = IsValid (contents_of a)
