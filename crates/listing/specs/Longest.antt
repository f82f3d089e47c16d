-- The most bytes that a listing can have, by the tables alone. EC's text is taken to be the longest of all classes, so that no value need have so many.
use Rattle.std.specs.Prelude.{ℕ}

abbrev pub listing_most : ℕ
listing_most = 1053

-- of one with sheets: 01's, and for each of at most 19 records a text line as long as a count of one byte allows, 260 bytes
abbrev pub listing_with_most : ℕ
listing_with_most = 5993
