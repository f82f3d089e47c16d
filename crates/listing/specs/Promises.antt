-- What each public function promises: of what comes in and what the buffer holds before, the answer and what the buffer
-- holds after.
use Rattle.std.specs.Prelude.{ℕ, List, Result}
use Rattle.refusals.specs.declared.Refusal.{Refusal}
use Rattle.listing.specs.Requested.{record_line, listing_of, listing_with_of}
use Rattle.written.specs.Outcomes.{Answers}

abbrev pub RecordLine : ℕ × ℕ × List ℕ → Result ℕ Refusal × List ℕ → Type 0
RecordLine (esr, index, before) out = Answers (record_line esr index) before out

abbrev pub Listing : ℕ × List ℕ → Result ℕ Refusal × List ℕ → Type 0
Listing (esr, before) out = Answers (listing_of esr) before out

abbrev pub ListingWith : ℕ × List ℕ × List ℕ × List ℕ → Result ℕ Refusal × List ℕ → Type 0
ListingWith (esr, workshop, standard, before) out = Answers (listing_with_of esr workshop standard) before out
