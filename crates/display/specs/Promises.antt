-- What each public function promises: of what comes in and what the buffer holds before, the next offset and what the buffer holds after. The
-- pool and its starts are whatever is lent.
use Rattle.std.specs.Prelude.{ℕ, List}
use Rattle.buffer.specs.Appending.{Appends}
use Rattle.buffer.specs.Lent.{part_in}
use Rattle.records.specs.Sets.{list_of}
use Rattle.records.specs.declared.Record.{Record}
use Rattle.records.specs.declared.Records.{Records}
use Rattle.phrases.specs.Sheets.{text_in}
use Rattle.display.specs.Listings.{line_text, listing, listing_with}

abbrev pub LinePut : List ℕ × ℕ × List ℕ × List ℕ × Record → ℕ × List ℕ → Type 0
LinePut (before, at, lent, starting, item) out = Appends (line_text (part_in lent starting) item) (at, before) out

abbrev pub ListingPut : List ℕ × ℕ × List ℕ × List ℕ × Records → ℕ × List ℕ → Type 0
ListingPut (before, at, lent, starting, records) out = Appends (listing (part_in lent starting) (list_of records)) (at, before) out

-- #112: the texts come from two sheets, whatever they hold, the workshop's first; the names from the pool
abbrev pub ListingWithPut : List ℕ × ℕ × List ℕ × List ℕ × List ℕ × List ℕ × Records → ℕ × List ℕ → Type 0
ListingWithPut (before, at, lent, starting, workshop, standard, records) out =
    Appends (listing_with (part_in lent starting) (text_in workshop standard) (list_of records)) (at, before) out
