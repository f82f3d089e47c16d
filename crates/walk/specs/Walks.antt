-- #104: what a walk over a fault block is. "The boot stage should read all entries of a block up to 65,536 bytes, one after another."
use Rattle.std.specs.Prelude.{ℕ, zero, suc, ◌+◌, ◌-◌, ◌*◌, ◌%◌, Bool, cond, not, ◌&&◌, ◌||◌, List, [], ◌∷◌, ◌++◌, map, length, drop, ◌==◌, nat_lt, slice_index, Option, None, Result, Ok, Err}
use Rattle.std.specs.Result.{result_err}
use Rattle.entry.specs.Entries.{sound, numbers_in, entry_of, entry_bytes}
use Rattle.entry.specs.declared.Entry.{Entry}
use Rattle.refusals.specs.Refusals.{bare, carrying, no_refusal, passed}
use Rattle.refusals.specs.declared.Reason.TheVariants.{LongBlock, ShortBuffer}
use Rattle.refusals.specs.declared.Refusal.{Refusal}
use Rattle.strict.specs.Strict.{answer_by}
use Rattle.strict.specs.declared.Profile.{Profile}
use Rattle.walk.specs.declared.Walked.{Walked}

-- "up to 65,536 bytes"; an entry has 13 bytes in all (01)
abbrev pub block_limit : ℕ
block_limit = 65536

abbrev pub entry_size : ℕ
entry_size = 13

-- "The walk ends at the end of the block, or at two bytes 0xFF 0xFF at an entry's place, or at the first bad entry": of the bytes from an entry's
-- place on. A byte that is not there is not 0xFF.
abbrev pub erased : List ℕ → Bool
erased s = slice_index s 0 == 0xFF && slice_index s 1 == 0xFF

abbrev pub over : List ℕ → Bool
over s = length s == 0 || erased s

abbrev pub ends : List ℕ → Bool
ends s = over s || not (sound s)

-- the entries of a block, each where the one before it ends; there are not more than bytes
unfoldable pub entries_within : ℕ → List ℕ → List Entry
entries_within zero s = []
entries_within (suc n) s = cond (ends s) [] (numbers_in s ∷ entries_within n (drop entry_size s))

unfoldable pub entries_of : List ℕ → List Entry
entries_of s = entries_within (length s) s

-- where the walk ends, and by which refusal: "the first bad entry, whose offset and refusal it gives"; none where no
-- entry is bad
abbrev pub end_offset : List ℕ → ℕ
end_offset s = entry_size * length (entries_of s)

unfoldable pub end_refusal : List ℕ → Option Refusal
end_refusal s = cond (over s) None (result_err (entry_of s))

-- "how many of their values decode": as the caller has them read, ordinarily or strictly (#110)
abbrev pub decodes : Profile → ℕ → Bool
decodes profile esr = passed (answer_by profile esr).refusal

unfoldable pub decoded_in : Profile → List Entry → ℕ
decoded_in profile [] = 0
decoded_in profile (e ∷ es) = cond (decodes profile e.esr) 1 0 + decoded_in profile es

-- "how many were skipped: the wrapping difference less one, or 65,535 for an equal number twice in a row"
abbrev pub wrapping_difference : ℕ → ℕ → ℕ
wrapping_difference last next = (next + 65536 - last) % 65536

unfoldable pub skipped : ℕ → ℕ → ℕ
skipped last next = cond (next == last) 65535 (wrapping_difference last next - 1)

-- "for each step from one entry to the next", of their sequence numbers
unfoldable pub steps_after : ℕ → List ℕ → List ℕ
steps_after last [] = []
steps_after last (next ∷ more) = skipped last next ∷ steps_after next more

unfoldable pub steps_of : List ℕ → List ℕ
steps_of [] = []
steps_of (first ∷ more) = steps_after first more

abbrev pub sequences : List Entry → List ℕ
sequences es = map (λ (e : Entry). e.sequence) es

abbrev pub steps_in : List ℕ → List ℕ
steps_in s = steps_of (sequences (entries_of s))

-- "Refusals: 20 for a block above the limit, then 11, carrying the places needed, if the steps don't fit the run"
unfoldable pub walk_refusal : List ℕ → ℕ → Refusal
walk_refusal s places =
    cond (nat_lt block_limit (length s)) (bare LongBlock)
    (cond (nat_lt places (length (steps_in s))) (carrying ShortBuffer (length (steps_in s)))
    no_refusal)

-- the answer
unfoldable pub walked : Profile → List ℕ → Walked
walked profile s =
    record {
      entries = length (entries_of s);
      decoded = decoded_in profile (entries_of s);
      offset = end_offset s;
      ended = end_refusal (drop (end_offset s) s);
    }

-- the answer and the run afterwards, of a block and the run before: "Places past the steps stay", and all of them on a
-- refusal
unfoldable pub walking : Profile → List ℕ → List ℕ → Result Walked Refusal × List ℕ
walking profile s before =
    cond (passed (walk_refusal s (length before)))
    (Ok (walked profile s), steps_in s ++ drop (length (steps_in s)) before)
    (Err (walk_refusal s (length before)), before)

-- Entries written one after another, each from its sequence and its ESR.

unfoldable pub block_bytes : List (ℕ × ℕ) → List ℕ
block_bytes [] = []
block_bytes ((sequence, esr) ∷ more) = entry_bytes sequence esr ++ block_bytes more

-- "The sequence number of the next entry is one more, and after 65,535 comes 0": so many numbers from one on
unfoldable pub sequences_from : ℕ → ℕ → List ℕ
sequences_from first zero = []
sequences_from first (suc n) = first % 65536 ∷ sequences_from (first + 1) n
