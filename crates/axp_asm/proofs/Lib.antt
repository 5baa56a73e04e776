-- the end of a draft
mod EndLemmas
-- the listing of an image gives it
mod FieldLemmas
mod FillLemmas
mod ListedLemmas
mod RoundTripLemmas
mod ListingLemmas
mod LengthLemmas
-- names stand once, branches lead to their labels, sources worked out
mod LabelLemmas
mod DisplacementLemmas
mod Examples
