-- What the promise comes to: a walk is the entry reader's answers, one by one; what is erased that reader refuses; and of entries written one
-- after another the steps say how many are lost, and where.
use Rattle.std.proofs.Common.{◌≡◌, ℕ, zero, suc, ◌+◌, ◌*◌, ◌%◌, ◌^◌, ◌<◌, ◌≤◌, true, List, [], ◌∷◌, ◌++◌, map, length, get_or, drop, replicate, sym, refl, ap, ◌∙◌, ap₂, append_assoc, append-nil, arith, length-append, length-drop, drop-drop, eq-eqb, ne_eqb}
use lib.ListN.{length-replicate}
use mathlib.Core.Bool.{true≢false}
use Rattle.std.specs.Prelude.{None, Result, Ok}
use Rattle.std.specs.Result.{is_ok}
use Rattle.entry.proofs.Laws.{judged-short, judged_version, judged-long, entry-sound, entry-refused}
use Rattle.entry.proofs.Theorems.{read-free, numbers_are, written-is-read}
use Rattle.entry.specs.BigEndian.{written}
use Rattle.entry.specs.Entries.{judged, entry_of, entry_bytes}
use Rattle.entry.specs.declared.Entry.{Entry}
use Rattle.refusals.specs.Refusals.{reason_number}
use Rattle.refusals.specs.declared.Refusal.{Refusal}
use Rattle.refusals.specs.declared.Reason.TheVariants.{ShortEntry, BadLength, BadVersion}
use Rattle.walk.proofs.Laws.{by-sound, sound-long, erased-length, entries_none, entries_more, entries_end, entries_fit, steps_fewer, end-over, walk_whole}
use Rattle.walk.specs.Promises.{BlockWalked}
use Rattle.strict.specs.declared.Profile.{Profile}
use Rattle.walk.specs.Walks.{erased, entries_of, end_offset, end_refusal, skipped, steps_after, steps_of, sequences, steps_in, block_bytes, sequences_from}
use Rattle.walk.specs.declared.Walked.{Walked}

-- "The single-entry reader still refuses such bytes, with 14, 15 or 16": 0xFFFF is their length, so it is 14 where fewer than 65,537 bytes are
-- there; else the version decides, 16, and one that is known leaves the length, 15.
module _ (s : List ℕ) (is-erased : erased s ≡ true) where
  some : ◌≡◌ {A = ℕ} 65535 0 → ⊥
  some z = omega arith

  pub erased-short : length s < 65537 → judged s ≡ ShortEntry
  erased-short h = judged-short s 65535 (sym (erased-length s is-erased).1) (erased-length s is-erased).0 some (omega arith)

  module _ (whole : 65537 ≤ length s) where
    pub erased_version : (get_or s 2 0 ≡ 1 → ⊥) → judged s ≡ BadVersion
    erased_version v = judged_version s 65535 (sym (erased-length s is-erased).1) (erased-length s is-erased).0 some (omega arith) v

    pub erased-long : get_or s 2 0 ≡ 1 → judged s ≡ BadLength
    erased-long v = judged-long s 65535 (sym (erased-length s is-erased).1) (erased-length s is-erased).0 some (omega arith) v (λ z. omega (arith, z))

-- Every entry that is counted is the entry reader's answer at 13 times its index, and that reader accepts it.

abbrev pub nothing : Entry
nothing = record { esr = 0; sequence = 0 }

abbrev pub ReadAt : ℕ → List ℕ → Type 0
ReadAt k s = entry_of (drop (13 * k) s) ≡ Ok (get_or (entries_of s) k nothing)

next_place : (k : ℕ) (s : List ℕ) → drop (13 * k) (drop 13 s) ≡ drop (13 * suc k) s
next_place k s =
    let e : 13 + 13 * k ≡ 13 * suc k = omega arith in
    drop-drop (13 * k) 13 s ∙ ap (λ (n : ℕ). drop n s) e

pub entry_at : (k : ℕ) (s : List ℕ) → k < length (entries_of s) → ReadAt k s
entry_at zero s h =
    by-sound s (λ free. entry-sound s free ∙ rw (entries_more s free))
    (λ bad. absurd (let g = rw (entries_none s bad) at h in omega arith))
entry_at (suc k) s h =
    by-sound s
    (λ free.
    let more = entry_at k (drop 13 s) (let g = rw (entries_more s free) at h in omega arith) in
    let place = next_place k s in
    rw (entries_more s free, ← place) more)
    (λ bad. absurd (let g = rw (entries_none s bad) at h in omega arith))

ok-free : (s : List ℕ) → is_ok (entry_of s) ≡ true → reason_number (judged s) ≡ 0
ok-free s h =
    by-sound s (λ free. free) (λ bad. absurd (true≢false (sym h ∙ ap is_ok (entry-refused s bad))))

-- A block whose entries all read is walked to its end: it has as many entries as 13 goes into its length, and nothing ends the walk before.
pub all_read : (n : ℕ) (s : List ℕ) → length s ≡ 13 * n
    → ((k : ℕ) → k < n → is_ok (entry_of (drop (13 * k) s)) ≡ true)
    → (length (entries_of s) ≡ n) × (end_refusal (drop (end_offset s) s) ≡ None)
all_read n s long each =
    let count = counted n s long each in
    let end : length (drop (end_offset s) s) ≡ 0 = omega (arith, length-drop (end_offset s) s, count) in
    (count, end-over (drop (end_offset s) s) (rw (eq-eqb (length (drop (end_offset s) s)) 0 end)))
  where
    counted : (n : ℕ) (s : List ℕ) → length s ≡ 13 * n
        → ((k : ℕ) → k < n → is_ok (entry_of (drop (13 * k) s)) ≡ true) → length (entries_of s) ≡ n
    counted zero s long each = by-sound s (λ free. absurd (omega (arith, sound-long s free))) (λ bad. rw (entries_none s bad))
    counted (suc n) s long each =
        let free : reason_number (judged s) ≡ 0 = ok-free s (each 0 (omega arith)) in
        rw (entries_more s free)
        (ap suc
        (counted n (drop 13 s) (omega (arith, length-drop 13 s))
        (λ k h. rw (next_place k s) (each (suc k) (omega arith)))))

-- At the most 5,041 entries fit, and 5,040 places hold the steps of any block.
pub at_most : (s : List ℕ) → length s ≤ 65536 → (length (entries_of s) ≤ 5041) × (length (steps_in s) ≤ 5040)
at_most s h = (omega (arith, entries_fit s), omega (arith, entries_fit s, steps_fewer s))

-- Sequence numbers. The next one is one more, and after 65,535 comes 0.

-- k lost are told as k, so that the next number has nothing skipped; an equal one is told as 65,535
pub lost_skipped : (q k : ℕ) → k < 65535 → skipped (q % 65536) ((q + 1 + k) % 65536) ≡ k
unfolding skipped
lost_skipped q k h =
    let p : ℕ = q % 65536 in
    let n : ℕ = (q + 1 + k) % 65536 in
    rw (ne_eqb n p (λ e. omega arith)) (omega arith)

pub next-skipped : (q : ℕ) → skipped (q % 65536) ((q + 1) % 65536) ≡ 0
next-skipped q = let e : q + 1 + 0 ≡ q + 1 = omega arith in rw e at (lost_skipped q 0 (omega arith))

pub equal-skipped : (p : ℕ) → skipped p p ≡ 65535
unfolding skipped
equal-skipped p = rw (eq-eqb p p refl)

none_lost : (q n : ℕ) → steps_after (q % 65536) (sequences_from (q + 1) n) ≡ replicate n 0
unfolding steps_after sequences_from
none_lost q zero = refl
none_lost q (suc n) = ap₂ (◌∷◌) (next-skipped q) (none_lost (q + 1) n)

lost_after : (q m k n : ℕ) → k < 65535
    → steps_after (q % 65536) (sequences_from (q + 1) m ++ sequences_from (q + 1 + m + k) (suc n)) ≡ replicate m 0 ++ (k ∷ replicate n 0)
unfolding steps_after sequences_from
lost_after q zero k n h =
    let e : q + 1 + 0 + k ≡ q + 1 + k = omega arith in
    rw e (ap₂ (◌∷◌) (lost_skipped q k h) (none_lost (q + 1 + k) n))
lost_after q (suc m) k n h =
    let e : q + 1 + suc m + k ≡ q + 1 + 1 + m + k = omega arith in
    rw e (ap₂ (◌∷◌) (next-skipped q) (lost_after (q + 1) m k n h))

-- m more after the first, then k lost, then n more after the next: k stands at that one step, and 0 at every other
pub lost_steps : (q m k n : ℕ) → k < 65535
    → steps_of (sequences_from q (suc m) ++ sequences_from (q + 1 + m + k) (suc n)) ≡ replicate m 0 ++ (k ∷ replicate n 0)
unfolding steps_of sequences_from
lost_steps q m k n h = lost_after q m k n h

-- Entries written one after another are read one after another, whatever follows.

abbrev pub Fit : List (ℕ × ℕ) → Type 0
Fit [] = Unit {0}
Fit ((sequence, esr) ∷ more) = (sequence < 256 ^ 2) × (esr < 256 ^ 8) × Fit more

abbrev pub read_as : ℕ × ℕ → Entry
read_as (sequence, esr) = record { esr = esr; sequence = sequence }

pub one-read : (sequence esr : ℕ) (rest : List ℕ) → sequence < 256 ^ 2 → esr < 256 ^ 8
    → entries_of (entry_bytes sequence esr ++ rest) ≡ read_as (sequence, esr) ∷ entries_of rest
unfolding written
one-read sequence esr rest small fits =
    let s : List ℕ = entry_bytes sequence esr ++ rest in
    let read = written-is-read sequence esr rest small fits in
    entries_more s (read-free s read) ∙ ap (λ (e : Entry). e ∷ entries_of rest) (sym (numbers_are s read))

pub written_read : (es : List (ℕ × ℕ)) (rest : List ℕ) → Fit es → entries_of (block_bytes es ++ rest) ≡ map read_as es ++ entries_of rest
unfolding block_bytes
written_read [] rest fit = refl
written_read ((sequence, esr) ∷ more) rest fit =
    rw (append_assoc (entry_bytes sequence esr) (block_bytes more) rest)
    (one-read sequence esr (block_bytes more ++ rest) fit.0 fit.1 ∙ ap (λ (es : List Entry). read_as (sequence, esr) ∷ es) (written_read more rest fit.2))

sequences-read : (es : List (ℕ × ℕ)) → sequences (map read_as es ++ []) ≡ map (λ (e : ℕ × ℕ). e.0) es
sequences-read [] = refl
sequences-read (e ∷ es) = ap (λ (qs : List ℕ). e.0 ∷ qs) (sequences-read es)

-- The walk of such a block, k lost at one place: "k there and 0 elsewhere".
pub lost_told : (es : List (ℕ × ℕ)) (q m k n : ℕ) → Fit es → k < 65535
    → map (λ (e : ℕ × ℕ). e.0) es ≡ sequences_from q (suc m) ++ sequences_from (q + 1 + m + k) (suc n)
    → length (block_bytes es) ≤ 65536 → (before : List ℕ) → m + 1 + n ≤ length before
    → (profile : Profile) (out : Result Walked Refusal × List ℕ) → BlockWalked (profile, block_bytes es, before) out
    → out.1 ≡ (replicate m 0 ++ (k ∷ replicate n 0)) ++ drop (m + 1 + n) before
lost_told es q m k n fit h numbers short before room profile out promised =
    let none : entries_of [] ≡ [] = entries_end [] 0 (omega arith) in
    let all : entries_of (block_bytes es) ≡ map read_as es ++ [] = rw (append-nil (block_bytes es)) at (written_read es [] fit ∙ ap (λ (l : List Entry). map read_as es ++ l) none) in
    let steps : steps_in (block_bytes es) ≡ replicate m 0 ++ (k ∷ replicate n 0) =
    ap (λ (l : List Entry). steps_of (sequences l)) all ∙ ap steps_of (sequences-read es ∙ numbers) ∙ lost_steps q m k n h in
    let count : length (steps_in (block_bytes es)) ≡ m + 1 + n =
    ap length steps ∙ length-append (replicate m 0) (k ∷ replicate n 0) ∙ omega (arith, length-replicate {A = ℕ} m 0, length-replicate {A = ℕ} n 0) in
    ap (λ (o : Result Walked Refusal × List ℕ). o.1) (promised ∙ walk_whole profile (block_bytes es) before (m + 1 + n) short (sym count) room)
    ∙ ap₂ (λ (a : List ℕ) (i : ℕ). a ++ drop i before) steps count
