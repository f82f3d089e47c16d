-- What each public function promises: of what comes in and what the buffer holds before, the next offset and what the buffer holds after.
use Rattle.std.specs.Prelude.{ℕ, List}
use Rattle.buffer.specs.Appending.{Appends}
use Rattle.number.specs.declared.Number.{Number}
use Rattle.strict.specs.declared.Profile.{Profile}
use Rattle.listing_reply.specs.Replies.{listed, listing_reply, listing_with_reply}

abbrev pub ListedPut : List ℕ × ℕ × Profile × ℕ → ℕ × List ℕ → Type 0
ListedPut (before, at, profile, esr) out = Appends (listed profile esr) (at, before) out

-- line 0 is the only line
abbrev pub ListingReply : List ℕ × ℕ × Profile × ℕ × Number → ℕ × List ℕ → Type 0
ListingReply (before, at, profile, line, number) out = Appends (listing_reply profile line number) (at, before) out

-- #112: with the texts of two sheets, whatever they hold
abbrev pub ListingWithReply : List ℕ × ℕ × Profile × ℕ × Number × List ℕ × List ℕ → ℕ × List ℕ → Type 0
ListingWithReply (before, at, profile, line, number, workshop, standard) out =
    Appends (listing_with_reply profile line number workshop standard) (at, before) out
