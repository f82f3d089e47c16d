-- Laws of the walk's definitions, which the functions' proofs cite: where an entry is sound the walk goes on, 13 bytes
-- later, and elsewhere it ends. The entry reader refuses all that the walk ends at, so that what the code asks of it
-- decides.
use Rattle.std.proofs.Common.{◌≡◌, ℕ, zero, suc, ◌+◌, ◌-◌, ◌*◌, ◌%◌, ◌^◌, ◌<◌, ◌≤◌, Bool, true, false, cond, ◌||◌, eqb, ltb, List, [], ◌∷◌, ◌++◌, length, take, drop, set, sym, refl, ap, ◌∙◌, append_assoc, append-nil, add-one, arith, eqb→eq, length-append, length-drop, take-append-drop, length-take-le, take_all, drop-drop, take-suc-set, drop-set-lt, le-ltb, lt-ltb, eq-eqb, ne_eqb, eqb-true}
use mathlib.Core.Bool.{true≢false}
use lib.ListN.{length-map}
use borrow.Author.Tests.{eqb-false}
use Rattle.std.specs.Prelude.{Option, None, Result, Ok, Err}
use Rattle.std.specs.Result.{is_ok, result_err}
use Rattle.entry.proofs.Laws.{facts}
use Rattle.entry.proofs.Theorems.{read-free, read-bad, numbers_are}
use Rattle.entry.specs.BigEndian.{bytes_after}
use Rattle.entry.specs.Entries.{length_in, sequence_in, esr_in, numbers_in, judged, sound, entry_of}
use Rattle.entry.specs.declared.Entry.{Entry}
use Rattle.promise.proofs.Tests.{both_left, both_right, is_true}
use Rattle.refusals.specs.Refusals.{bare, carrying, passed, reason_number}
use Rattle.refusals.specs.declared.Reason.TheVariants.{LongBlock, ShortBuffer}
use Rattle.refusals.specs.declared.Refusal.{Refusal}
use Rattle.strict.specs.declared.Profile.{Profile}
use Rattle.walk.specs.Walks.{erased, over, ends, entries_within, entries_of, end_refusal, decodes, decoded_in, skipped, steps_after, steps_of, sequences, steps_in, walk_refusal, walked, walking}
use Rattle.walk.specs.declared.Walked.{Walked}

-- Where the walk ends.

-- two bytes 0xFF are a length of 65,535
pub erased-length : (s : List ℕ) → erased s ≡ true → (2 ≤ length s) × (length_in s ≡ 65535)
unfolding bytes_after
erased-length [] e = absurd (is_true e)
erased-length (a ∷ []) e = absurd (both_right (eqb a 0xFF) false (is_true e))
erased-length (a ∷ b ∷ s) e =
    let p = eqb→eq a 0xFF (both_left (eqb a 0xFF) (eqb b 0xFF) (is_true e)) in
    let q = eqb→eq b 0xFF (both_right (eqb a 0xFF) (eqb b 0xFF) (is_true e)) in
    (omega arith, omega arith)

-- a sound entry has its 13 bytes, and the walk does not end there
module _ (s : List ℕ) (free : reason_number (judged s) ≡ 0) where
  pub sound-long : 13 ≤ length s
  sound-long = (facts s free).long

  not_erased : erased s ≡ false
  not_erased = by (erased s) refl
    where
      by : (b : Bool) → erased s ≡ b → b ≡ false
      by true e = absurd (omega (arith, (erased-length s e).1, (facts s free).eleven))
      by false e = refl

  sound-goes_on : ends s ≡ false
  sound-goes_on = rw (ne_eqb (length s) 0 (λ z. omega (arith, sound-long)), not_erased, eq-eqb (reason_number (judged s)) 0 free)

refused-ends : (s : List ℕ) → (reason_number (judged s) ≡ 0 → ⊥) → ends s ≡ true
refused-ends s bad = rw (ne_eqb (reason_number (judged s)) 0 bad) (or_true (over s))
  where
    or_true : (b : Bool) → b || true ≡ true
    or_true true = refl
    or_true false = refl

-- Entries one after another: as many as there are bytes are enough, so that what is left has its own.

within_none : (n : ℕ) (s : List ℕ) → (reason_number (judged s) ≡ 0 → ⊥) → entries_within n s ≡ []
unfolding entries_within
within_none zero s bad = refl
within_none (suc n) s bad = rw (refused-ends s bad)

by-test : {P : Type 0} (n : ℕ) (b : Bool) → eqb n 0 ≡ b → (n ≡ 0 → P) → ((n ≡ 0 → ⊥) → P) → P
by-test n true e go stop = go (eqb-true n 0 e)
by-test n false e go stop = stop (eqb-false n 0 e)

module _ (s : List ℕ) where
  pub by-sound : {P : Type 0} → (reason_number (judged s) ≡ 0 → P) → ((reason_number (judged s) ≡ 0 → ⊥) → P) → P
  by-sound go stop = by-test (reason_number (judged s)) (sound s) refl go stop

  too_short : length s ≤ 0 → reason_number (judged s) ≡ 0 → ⊥
  too_short h free = omega (arith, sound-long s free)

  short_tail : (n : ℕ) → length s ≤ suc n → reason_number (judged s) ≡ 0 → length (drop 13 s) ≤ n
  short_tail n h free = omega (arith, sound-long s free, length-drop 13 s)

within-enough : (m n : ℕ) (s : List ℕ) → length s ≤ m → length s ≤ n → entries_within m s ≡ entries_within n s
unfolding entries_within
within-enough zero n s p q = sym (within_none n s (too_short s p))
within-enough (suc m) zero s p q = within_none (suc m) s (too_short s q)
within-enough (suc m) (suc n) s p q =
    by-sound s
    (λ free.
    rw (sound-goes_on s free)
    (ap (λ (es : List Entry). numbers_in s ∷ es) (within-enough m n (drop 13 s) (short_tail s m p free) (short_tail s n q free))))
    (λ bad. within_none (suc m) s bad ∙ sym (within_none (suc n) s bad))

pub entries_none : (s : List ℕ) → (reason_number (judged s) ≡ 0 → ⊥) → entries_of s ≡ []
unfolding entries_of
entries_none s bad = within_none (length s) s bad

pub entries_more : (s : List ℕ) → reason_number (judged s) ≡ 0 → entries_of s ≡ numbers_in s ∷ entries_of (drop 13 s)
unfolding entries_of entries_within
entries_more s free =
    let l = sound-long s free in
    let d = length-drop 13 s in
    within-enough (length s) (suc (length s)) s (omega arith) (omega arith)
    ∙ rw (sound-goes_on s free) (ap (λ (es : List Entry). numbers_in s ∷ es) (within-enough (length s) (length (drop 13 s)) (drop 13 s) (omega arith) (omega arith)))

pub entries_end : (s : List ℕ) (at : ℕ) → length s ≤ at → entries_of (drop at s) ≡ []
entries_end s at h =
    entries_none (drop at s) (λ free. omega (arith, sound-long (drop at s) free, length-drop at s))

-- they fit the block
fit : (n : ℕ) (s : List ℕ) → length s ≤ n → 13 * length (entries_of s) ≤ length s
fit zero s h = rw (entries_none s (too_short s h)) (omega arith)
fit (suc n) s h =
    by-sound s
    (λ free. rw (entries_more s free) (omega (arith, fit n (drop 13 s) (short_tail s n h free), sound-long s free, length-drop 13 s)))
    (λ bad. rw (entries_none s bad) (omega arith))

pub entries_fit : (s : List ℕ) → 13 * length (entries_of s) ≤ length s
entries_fit s = fit (length s) s (omega arith)

-- What the code reads at a place.

pub rest : (s : List ℕ) (at : ℕ) → take (length s - at) (drop at s) ≡ drop at s
rest s at = take_all (length s - at) (drop at s) (omega (arith, length-drop at s))

-- at a place within a block: the answer says whether the entry there is sound, and one that is has its 13 bytes
module _ (s : List ℕ) (at : ℕ) {r : Result Entry Refusal} (read : r ≡ entry_of (take (length s - at) (drop at s))) where
  read_at : r ≡ entry_of (drop at s)
  read_at = read ∙ ap entry_of (rest s at)

  pub bad_at : {f : Refusal} → r ≡ Err f → entries_of (drop at s) ≡ []
  bad_at e = entries_none (drop at s) (read-bad (drop at s) (sym read_at ∙ e))

  module _ {e : Entry} (is : r ≡ Ok e) where
    pub sound_at : reason_number (judged (drop at s)) ≡ 0
    sound_at = read-free (drop at s) (sym read_at ∙ is)

    pub numbers_at : e ≡ numbers_in (drop at s)
    numbers_at = numbers_are (drop at s) (sym read_at ∙ is)

    pub long_at : at ≤ length s → at + 13 ≤ length s
    long_at within = omega (arith, within, sound-long (drop at s) sound_at, length-drop at s)

-- Counts: of those so far and of those that are left.

module _ (m k : ℕ) (t : List ℕ) (all : m ≡ k + length (entries_of t)) where
  pub count-more : reason_number (judged t) ≡ 0 → m ≡ (k + 1) + length (entries_of (drop 13 t))
  count-more free = let g = rw (entries_more t free) at all in omega arith

  pub count-done : entries_of t ≡ [] → k ≡ m
  count-done e = let g = rw e at all in omega arith

module _ (profile : Profile) (m k : ℕ) (t : List ℕ) (all : m ≡ k + decoded_in profile (entries_of t)) where
  pub decoded-more : (d : ℕ) → reason_number (judged t) ≡ 0 → d ≡ cond (decodes profile (esr_in t)) 1 0 → m ≡ (k + d) + decoded_in profile (entries_of (drop 13 t))
  unfolding decoded_in
  decoded-more d free e = let g = rw (entries_more t free, ← e) at all in omega arith

  pub decoded-done : entries_of t ≡ [] → k ≡ m
  unfolding decoded_in
  decoded-done e = let g = rw e at all in omega arith

pub at_most_one : (b : Bool) → cond b 1 0 ≤ 1
at_most_one true = omega arith
at_most_one false = omega arith

-- Steps: g is all of them, k of them stand in the run, and the rest follows the number `last`.

pub steps_first : (s : List ℕ) → reason_number (judged s) ≡ 0 → steps_in s ≡ steps_after (sequence_in s) (sequences (entries_of (drop 13 s)))
unfolding steps_of
steps_first s free = rw (entries_more s free)

pub steps_none : (s run : List ℕ) → (reason_number (judged s) ≡ 0 → ⊥) → run ≡ steps_in s ++ drop (length (steps_in s)) run
unfolding steps_of
steps_none s run bad = rw (entries_none s bad)

module _ (g run : List ℕ) (k last : ℕ) (t : List ℕ) (inside : k ≤ length run) (all : g ≡ take k run ++ steps_after last (sequences (entries_of t))) where
  module _ (free : reason_number (judged t) ≡ 0) where
    steps_cons : g ≡ take k run ++ (skipped last (sequence_in t) ∷ steps_after (sequence_in t) (sequences (entries_of (drop 13 t))))
    unfolding steps_after
    steps_cons = all ∙ rw (entries_more t free)

    pub steps_room : length g ≤ length run → k < length run
    steps_room h =
        let e = simp length-append at (ap length steps_cons) in
        omega (arith, length-take-le k run inside)

    pub steps_more : (e : Entry) (v : ℕ) → e ≡ numbers_in t → v ≡ skipped last e.sequence → k < length run
        → g ≡ take (k + 1) (set run k v) ++ steps_after e.sequence (sequences (entries_of (drop 13 t)))
    steps_more e v he hv h =
        let w : take (k + 1) (set run k v) ≡ take k run ++ (v ∷ []) = rw add-one (take-suc-set run k v h) in
        rw (w, append_assoc, hv, he) steps_cons

  pub steps_done : (run₀ : List ℕ) → entries_of t ≡ [] → drop k run ≡ drop k run₀ → run ≡ g ++ drop (length g) run₀
  unfolding steps_after
  steps_done run₀ stop same =
      let e : g ≡ take k run = all ∙ rw stop (append-nil _) in
      let l : length g ≡ k = ap length e ∙ length-take-le k run inside in
      rw (l, e, ← same) (sym (take-append-drop k run))

-- what lies past the places written so far is as it was
pub drop_more : (k v : ℕ) (run run₀ : List ℕ) → drop k run ≡ drop k run₀ → drop (k + 1) (set run k v) ≡ drop (k + 1) run₀
drop_more k v run run₀ h = drop-set-lt (k + 1) run k v (omega arith) ∙ sym (drop-drop 1 k run) ∙ ap (drop 1) h ∙ drop-drop 1 k run₀

-- there is a step less than there are entries
after-length : (last : ℕ) (more : List ℕ) → length (steps_after last more) ≡ length more
unfolding steps_after
after-length last [] = refl
after-length last (next ∷ more) = ap suc (after-length next more)

steps_length : (qs : List ℕ) → length (steps_of qs) ≡ length qs - 1
unfolding steps_of
steps_length [] = refl
steps_length (q ∷ qs) = omega (arith, after-length q qs)

pub steps_fewer : (s : List ℕ) → length (steps_in s) ≡ length (entries_of s) - 1
steps_fewer s = steps_length (sequences (entries_of s)) ∙ rw (length-map (entries_of s) (λ (e : Entry). e.sequence))

-- Sequence numbers.

module _ (last next : ℕ) (small : last < 65536) (below : next < 65536) where
  -- by the difference and the step, each told by what gives it back
  pub skipped-is : (d r : ℕ) → d < 65536 → r < 65536 → (d + last) % 2 ^ 16 ≡ next → (r + 1) % 2 ^ 16 ≡ d → r ≡ skipped last next
  unfolding skipped
  skipped-is d r hd hr e f = by (eqb next last) refl
    where
      by : (b : Bool) → eqb next last ≡ b → r ≡ cond b 65535 ((next + 65536 - last) % 65536 - 1)
      by true h = omega (arith, eqb-true next last h)
      by false h = let n = eqb-false next last h in omega arith

  -- as two subtractions that wrap compute it
  pub wrapped-is : ((next + (65536 - last)) % 65536 + 65535) % 65536 ≡ skipped last next
  unfolding skipped
  wrapped-is = by (eqb next last) refl
    where
      by : (b : Bool) → eqb next last ≡ b
          → ((next + (65536 - last)) % 65536 + 65535) % 65536 ≡ cond b 65535 ((next + 65536 - last) % 65536 - 1)
      by true h = omega (arith, eqb-true next last h)
      by false h = let n = eqb-false next last h in omega arith

-- The whole answer, from the tests that lead to it.

pub walk_long : (profile : Profile) (s before : List ℕ) → 65536 < length s → walking profile s before ≡ (Err (bare LongBlock), before)
unfolding walking walk_refusal
walk_long profile s before h = rw (lt-ltb 65536 (length s) h)

module _ (profile : Profile) (s before : List ℕ) (n : ℕ) (within : length s ≤ 65536) (needed : n ≡ length (steps_in s)) where
  pub walk_short : length before < n → walking profile s before ≡ (Err (carrying ShortBuffer n), before)
  unfolding walking walk_refusal
  walk_short h = rw (le-ltb 65536 (length s) within, ← needed, lt-ltb (length before) n h)

  pub walk_whole : n ≤ length before → walking profile s before
      ≡ (Ok (walked profile s), steps_in s ++ drop (length (steps_in s)) before)
  unfolding walking walk_refusal
  walk_whole h =
      let room : ltb (length before) (length (steps_in s)) ≡ false = le-ltb (length before) (length (steps_in s)) (omega arith) in
      rw (le-ltb 65536 (length s) within, room)

abbrev ok_or : {T E : Type 0} → T → Result T E → T
ok_or x (Ok y) = y
ok_or x (Err e) = x

abbrev err_or : {T E : Type 0} → E → Result T E → E
err_or e (Ok y) = e
err_or e (Err f) = f

-- an answer that is a refusal is that of the definition, and one that is none is of the whole walk
module _ (profile : Profile) (s before after : List ℕ) {r : Result Walked Refusal}
    (is : (r, after) ≡ walking profile s before)
  where
    abbrev refusal : Refusal
    refusal = walk_refusal s (length before)

    abbrev whole : Result Walked Refusal × List ℕ
    whole = (Ok (walked profile s), steps_in s ++ drop (length (steps_in s)) before)

    abbrev Told : Bool → Type 0
    Told p = (passed refusal ≡ p) × ((r, after) ≡ cond p whole (Err refusal, before))

    by_told : {P : Type 0} → (Told true → P) → (Told false → P) → P
    unfolding walking
    by_told {P} go stop = by (passed refusal) refl is
      where
        by : (p : Bool) → passed refusal ≡ p → (r, after) ≡ cond p whole (Err refusal, before) → P
        by true h i = go (h, i)
        by false h i = stop (h, i)

    pub refusal-told : {f : Refusal} → r ≡ Err f → (f ≡ refusal) × (passed refusal ≡ false)
    refusal-told e =
        by_told (λ t. absurd (true≢false (sym (ap (λ (o : Result Walked Refusal × List ℕ). is_ok o.0) t.1) ∙ ap is_ok e)))
        (λ t. (ap (err_or refusal) (sym e ∙ ap (λ (o : Result Walked Refusal × List ℕ). o.0) t.1), t.0))

    pub walk_passed : {w : Walked} → r ≡ Ok w
        → (passed refusal ≡ true) × (w ≡ walked profile s) × (after ≡ steps_in s ++ drop (length (steps_in s)) before)
    walk_passed e =
        by_told
        (λ t. (
          t.0,
          ap (ok_or (walked profile s)) (sym e ∙ ap (λ (o : Result Walked Refusal × List ℕ). o.0) t.1),
          ap (λ (o : Result Walked Refusal × List ℕ). o.1) t.1,
        ))
        (λ t. absurd (true≢false (sym (ap is_ok e) ∙ ap (λ (o : Result Walked Refusal × List ℕ). is_ok o.0) t.1)))

-- what stands at the end
pub end-over : (t : List ℕ) → over t ≡ true → end_refusal t ≡ None
unfolding end_refusal
end-over t h = rw h

pub end_bad : (t : List ℕ) → over t ≡ false → end_refusal t ≡ result_err (entry_of t)
unfolding end_refusal
end_bad t h = rw h

pub walked-is : (profile : Profile) (s t : List ℕ) (n d : ℕ) (f : Option Refusal) → n ≡ length (entries_of s)
    → d ≡ decoded_in profile (entries_of s) → t ≡ drop (13 * n) s → f ≡ end_refusal t
    → record { entries = n; decoded = d; offset = 13 * n; ended = f } ≡ walked profile s
unfolding walked
walked-is profile s t n d f en ed et ef = rw (ef, et, ed, en)
