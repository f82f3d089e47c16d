-- #112: "A sheet has two bytes of length (bytes that follow), big-endian, one version byte 1, then phrases, each of a two-byte text code, a
-- one-byte count and that many bytes, codes strictly rising."
use Rattle.std.specs.Prelude.{ℕ, zero, suc, ◌+◌, ◌-◌, ◌*◌, ◌<◌, ◌≤◌, Bool, cond, not, ◌&&◌, List, ◌≡◌, eqb, ltb, length, get_or, take, drop}
use Rattle.std.specs.Prelude.{Option, Some, None as Nothing, Result, Ok, Err, is_some, option_map}
use Rattle.entry.specs.Entries.{Part}
use Rattle.phrases.specs.declared.Found.{Found}
use Rattle.phrases.specs.declared.Place.{Place}
use Rattle.phrases.specs.declared.Sheet.{Sheet}
use Rattle.phrases.specs.declared.Sheet.TheVariants.{Workshop, Standard}
use Rattle.refusals.specs.Refusals.{bare, passed, reason_number}
use Rattle.refusals.specs.declared.Reason.{Reason}
use Rattle.refusals.specs.declared.Reason.TheVariants.{None, ShortSheet, BadSheetVersion, LongPhrase, CodeNotRising}

-- The bytes of a sheet.

-- the two-byte number at an offset, big-endian
abbrev pub word_at : List ℕ → ℕ → ℕ
word_at s at = get_or s at 0 * 256 + get_or s (at + 1) 0

-- the bytes from an offset up to another
abbrev pub window : ℕ → ℕ → List ℕ → List ℕ
window at end s = take (end - at) (drop at s)

-- the bytes of the phrases: after the version, as many as the length says. "Bytes past a sheet's length are not read."
abbrev pub body_of : List ℕ → List ℕ
body_of s = window 3 (2 + word_at s 0) s

-- a reason as an error
abbrev pub sound_unless : Reason → Result Unit Reason
sound_unless None = Ok tt
sound_unless why = Err why

-- Its phrases, one after the other.

-- a phrase: its code, and its bytes, start .. start + count of the sheet
pub record Phrase : Type 0 where
  pub code : ℕ
  pub start : ℕ
  pub count : ℕ

-- phrases, and how they end: None where no byte is left, else why the next one is broken
pub data Phrases : Type 0 where
  ends : Reason → Phrases
  phrase : Phrase → Phrases → Phrases

-- the code, and the count, of the phrase at the front of some bytes
abbrev pub code_in : List ℕ → ℕ
code_in rest = word_at rest 0

abbrev pub count_in : List ℕ → ℕ
count_in rest = get_or rest 2 0

-- the phrases of the bytes from an offset of a sheet on, at most n: "26 for a head of under three bytes, 28 for a count running past the end"
unfoldable pub phrases_from : ℕ → ℕ → List ℕ → Phrases
phrases_from zero at rest = ends None
phrases_from (suc n) at rest =
    cond (eqb (length rest) 0) (ends None)
    (cond (ltb (length rest) 3) (ends ShortSheet)
    (cond (ltb (length rest) (3 + count_in rest)) (ends LongPhrase)
    (phrase (record { code = code_in rest; start = at + 3; count = count_in rest }) (phrases_from n (at + 3 + count_in rest) (drop (3 + count_in rest) rest)))))

-- all of them: there are no more than bytes
abbrev pub phrases_of : ℕ → List ℕ → Phrases
phrases_of at rest = phrases_from (length rest) at rest

abbrev pub phrases_in : List ℕ → Phrases
phrases_in s = phrases_of 3 (body_of s)

-- what an offset says of the phrases between it and another: their first, by its code and its place, and where the next
-- one begins; or why they end. No promise rests on this: two private functions read a sheet by it
abbrev pub Front : List ℕ → ℕ → ℕ → Result (ℕ × Place) Reason → Type 0
Front s at end (Ok (code, p)) =
    (at < p.start + p.count) × (p.start + p.count ≤ end)
    × (phrases_of at (window at end s)
    ≡ phrase (record { code = code; start = p.start; count = p.count })
    (phrases_of (p.start + p.count) (window (p.start + p.count) end s)))
Front s at end (Err why) = (phrases_of at (window at end s) ≡ ends why) × (sound_unless why ≡ Err why)

-- When a sheet is refused.

-- phrase by phrase: "29 for a code not rising", where the next code must be this at least
unfoldable pub fault : ℕ → Phrases → Reason
fault least (ends why) = why
fault least (phrase p ps) = cond (ltb p.code least) CodeNotRising (fault (p.code + 1) ps)

-- "26 for fewer than two bytes, length 0 or fewer bytes than it asks, 27 for the version, then phrase by phrase"
unfoldable pub judged : List ℕ → Reason
judged s =
    cond (ltb (length s) 2) ShortSheet
    (cond (eqb (word_at s 0) 0) ShortSheet
    (cond (ltb (length s) (2 + word_at s 0)) ShortSheet
    (cond (not (eqb (get_or s 2 0) 1)) BadSheetVersion
    (fault 0 (phrases_in s)))))

-- "workshop's sheet first"
unfoldable pub judged_both : List ℕ → List ℕ → Reason
judged_both workshop standard = cond (eqb (reason_number (judged workshop)) 0) (judged standard) (judged workshop)

-- Where the phrase of a code lies.

-- in one sheet: the first phrase that has the code. A sound sheet has no other
unfoldable pub place_of : ℕ → Phrases → Option Place
place_of code (ends why) = Nothing
place_of code (phrase p ps) =
    cond (eqb p.code code) (Some (record { start = p.start; count = p.count })) (place_of code ps)

unfoldable pub place_in : List ℕ → ℕ → Option Place
place_in s code = place_of code (phrases_in s)

-- in two: "the phrase comes from the workshop's sheet if the code is there, otherwise from the standard sheet"
abbrev pub in_sheet : Sheet → Place → Found
in_sheet sheet p = record { start = p.start; count = p.count; sheet = sheet }

abbrev pub first_of : Option Place → Option Place → Option Found
first_of (Some p) second = Some (in_sheet Workshop p)
first_of Nothing second = option_map (in_sheet Standard) second

unfoldable pub find_in : List ℕ → List ℕ → ℕ → Option Found
find_in workshop standard code = first_of (place_in workshop code) (place_in standard code)

-- of two things, that of a sheet
abbrev pub of_sheet : {A : Type 0} → A → A → Sheet → A
of_sheet workshop standard Workshop = workshop
of_sheet workshop standard Standard = standard

-- a place in the sheet that it names lies inside that sheet. No promise rests on this: it is what a private function asks
-- that writes what was found
abbrev pub InSheet : List ℕ → List ℕ → Found → Type 0
InSheet workshop standard f = f.start + f.count ≤ length (of_sheet workshop standard f.sheet)

-- What is found: nothing, or a text, which may be empty.

pub data Text : Type 0 where
  missing : Text
  found : List ℕ → Text

-- of a place in a sheet
unfoldable pub text_of : List ℕ → Option Place → Text
text_of s (Some p) = found (take p.count (drop p.start s))
text_of s Nothing = missing

-- the first, or where there is none the other
unfoldable pub or_else : Text → Text → Text
or_else missing other = other
or_else (found t) other = found t

-- what one sheet has under a code, and what two have
abbrev pub text_from : List ℕ → ℕ → Text
text_from s code = text_of s (place_in s code)

unfoldable pub text_in : List ℕ → List ℕ → ℕ → Text
text_in workshop standard code = or_else (text_from workshop code) (text_from standard code)

-- What is handed back. Of sheets that are refused: nothing.

abbrev pub both_sound : List ℕ → List ℕ → Bool
both_sound workshop standard = passed (bare (judged_both workshop standard))

-- "A code in neither gives an empty part and a no, which differs from an empty phrase": the answer
unfoldable pub has_phrase : List ℕ → List ℕ → ℕ → Bool
has_phrase workshop standard code = both_sound workshop standard && is_some (find_in workshop standard code)

-- and the part: "handed back as part of the sheet it came from", in its memory, as far after its offset as the phrase begins; where there is
-- none, an empty part at the front of the workshop's sheet
abbrev pub part_at : Part → ℕ → ℕ → Part
part_at sheet start count = record { memory = sheet.memory; offset = start + sheet.offset; bytes = take count (drop start sheet.bytes) }

abbrev pub part_of : Part → Found → Part
part_of sheet f = part_at sheet f.start f.count

abbrev pub no_part : Part → Part
no_part sheet = part_at sheet 0 0

unfoldable pub part_found : Part → Part → Option Found → Part
part_found workshop standard (Some f) = part_of (of_sheet workshop standard f.sheet) f
part_found workshop standard Nothing = no_part workshop

unfoldable pub phrase_in : Part → Part → ℕ → Part
phrase_in workshop standard code =
    cond (both_sound workshop.bytes standard.bytes) (part_found workshop standard (find_in workshop.bytes standard.bytes code)) (no_part workshop)
