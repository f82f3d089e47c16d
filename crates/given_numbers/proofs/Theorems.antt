-- What the promises come to: however an input is cut into parts, what is given is that of its lines, taken one after the other. By induction over the bytes: the
-- state of a line is that of the bytes taken of it so far.
use Prim.Native.Nat.{ℕ, suc, ◌+◌, ◌≤◌, ◌<◌}
use mathlib.Core.Bool.{Bool, true, false, cond}
use mathlib.Core.List.{List, [], ◌∷◌, ◌++◌, append_assoc, append-nil}
use mathlib.Core.Path.{◌≡◌, refl, sym, ap, ◌∙◌}
use native.Mathlib.Numerals.{add-one}
use native.Mathlib.Omega.{arith}
use lib.Dec.{T, eqb}
use lib.ListN.{length, set, take, drop}
use lib.Seq.{drop-nil, sets}
use borrow.Author.Tests.{eqb-true, lt-ltb, ne_eqb}
use Rattle.given_numbers.proofs.Laws.{last_none, last_open, number_behind, number-kept, number-none}
use Rattle.given_numbers.specs.Given.{AllGiven, FirstNone, all_hold, at_start, end_line, holds_number, in_line, kept_of, most_lines, next_line, nothing, on_line, take_byte, take_bytes, take_last, take_lines, take_number, take_parts, values_of}
use Rattle.given_numbers.specs.declared.Given.{Given}
use Rattle.given_numbers.specs.declared.Reading.{Reading}
use Rattle.line_reader.proofs.Splitting.{line_alone, line_and_rest}
use Rattle.line_reader.proofs.Theorems.{begun, finished, one_byte-more, opened, Reads}
use Rattle.line_reader.specs.Lines.{joined, line_feed, lines_of}
use Rattle.line_reader.specs.declared.Rest.TheVariants.{Whole}
use Rattle.number.specs.Steps.{step_of}
use Rattle.promise.proofs.Tests.{both_left, both_right, true_is}
use Rattle.refusals.specs.Refusals.{passed}

-- The bytes of an input.

abbrev State : Type 0
State = Reading × List ℕ

-- at the end of the input
last_line : (r : Reading) (kept line : List ℕ) → Reads r.line line → take_last (r, kept) ≡ take_lines (r.given, kept) (lines_of line)
unfolding lines_of take_lines
last_line r kept [] reads = last_none r kept (opened r.line [] reads)
last_line r kept (b ∷ line) reads =
    last_open r kept (opened r.line (b ∷ line) reads ∙ lt-ltb 0 (length (b ∷ line)) (omega arith))
    ∙ ap (take_number (r.given, kept)) (finished r.line (b ∷ line) reads Whole)
    ∙ ap (take_lines (r.given, kept)) (sym (line_alone b line reads.0))

-- and from any byte of it on
by_lines : (r : Reading) (kept line w : List ℕ) → Reads r.line line → take_last (take_bytes (r, kept) w) ≡ take_lines (r.given, kept) (lines_of (line ++ w))
unfolding take_bytes take_lines
by_lines r kept line [] reads = rw (append-nil line) (last_line r kept line reads)
by_lines r kept line (b ∷ w) reads =
    by_feed (eqb b line_feed) refl (by_lines (next_line (end_line (r, kept))).0 (next_line (end_line (r, kept))).1 [] w begun)
    (λ n. by_lines (on_line r (step_of r.line b)) kept (line ++ (b ∷ [])) w (one_byte-more r.line line b reads n))
  where
    by_feed : (f : Bool) → eqb b line_feed ≡ f
        → take_last (take_bytes (next_line (end_line (r, kept))) w) ≡ take_lines (end_line (r, kept)) (lines_of w)
        → (eqb b line_feed ≡ false → take_last (take_bytes (on_line r (step_of r.line b), kept) w) ≡ take_lines (r.given, kept) (lines_of ((line ++ (b ∷ [])) ++ w)))
        → take_last (take_bytes (cond f (next_line (end_line (r, kept))) (on_line r (step_of r.line b), kept)) w) ≡ take_lines (r.given, kept) (lines_of (line ++ (b ∷ w)))
    by_feed true e feed byte =
        feed
        ∙ ap (λ s. take_lines s (lines_of w)) (ap (take_number (r.given, kept)) (finished r.line line reads Whole))
        ∙ rw (eqb-true b line_feed e, line_and_rest line w reads.0)
    by_feed false e feed byte = rw (append_assoc line (b ∷ []) w) at (byte e)

-- The parts of an input.

bytes-append : (s : State) (p q : List ℕ) → take_bytes s (p ++ q) ≡ take_bytes (take_bytes s p) q
unfolding take_bytes
bytes-append s [] q = refl
bytes-append s (b ∷ p) q = bytes-append (take_byte s b) p q

one-part : (s : State) (parts : List (List ℕ)) → take_parts s parts ≡ take_last (take_bytes s (joined parts))
unfolding take_parts take_bytes joined
one-part s [] = refl
one-part s (part ∷ parts) = one-part (take_bytes s part) parts ∙ ap take_last (sym (bytes-append s part (joined parts)))

-- however an input is cut into parts: what is given, and what is kept, is that of its lines
pub in_parts : (kept : List ℕ) (parts : List (List ℕ)) → take_parts (at_start, kept) parts ≡ take_lines (nothing, kept) (lines_of (joined parts))
in_parts kept parts = one-part (at_start, kept) parts ∙ by_lines at_start kept [] (joined parts) begun

-- What is kept: values that are stored one after the other from the first place on.

sets_behind : (x : ℕ) (l : List ℕ) (i : ℕ) (vs : List ℕ) → sets (x ∷ l) (suc i) vs ≡ x ∷ sets l i vs
sets_behind x l i [] = refl
sets_behind x l i (v ∷ vs) = sets_behind x (set l i v) (suc i) vs

sets-nowhere : (i : ℕ) (vs : List ℕ) → sets [] i vs ≡ []
sets-nowhere i [] = refl
sets-nowhere i (v ∷ vs) = sets-nowhere (suc i) vs

sets_first : (l vs : List ℕ) → sets l 0 vs ≡ take (length l) vs ++ drop (length vs) l
sets_first [] vs = sets-nowhere 0 vs ∙ sym (drop-nil {A = ℕ} (length vs))
sets_first (x ∷ l) [] = refl
sets_first (x ∷ l) (v ∷ vs) = sets_behind v l 0 vs ∙ ap (λ (r : List ℕ). v ∷ r) (sets_first l vs)

as_many : (lines : List (List ℕ)) → length (values_of lines) ≡ length lines
unfolding values_of
as_many [] = refl
as_many (line ∷ lines) = ap suc (as_many lines)

stored-first : (kept : List ℕ) (lines : List (List ℕ)) → sets kept 0 (values_of lines) ≡ kept_of kept lines
stored-first kept lines = sets_first kept (values_of lines) ∙ ap (λ (n : ℕ). take (length kept) (values_of lines) ++ drop n kept) (as_many lines)

-- Lines that each hold a number, from any count on.

record Added (count : ℕ) (kept : List ℕ) (lines : List (List ℕ)) (out : Given × List ℕ) : Type 0 where
  more : out.0.count ≡ count + length lines
  none : out.0.place ≡ 0
  pass : passed out.0.refusal ≡ true
  stored : out.1 ≡ sets kept count (values_of lines)

added : (g : Given) (kept : List ℕ) (lines : List (List ℕ)) → passed g.refusal ≡ true → g.place ≡ 0 → g.count + length lines ≤ most_lines → T (all_hold lines)
    → Added g.count kept lines (take_lines (g, kept) lines)
unfolding take_lines all_hold values_of
added g kept [] p z few t = record { more = omega arith; none = z; pass = p; stored = refl }
added g kept (line ∷ lines) p z few t =
    let e : holds_number line ≡ true = true_is (holds_number line) (both_left (holds_number line) (all_hold lines) t) in
    let some : eqb g.count most_lines ≡ false = ne_eqb g.count most_lines (λ m. omega arith) in
    let next : Given = record { count = g.count + 1; place = 0; refusal = (in_line line).refusal } in
    let a : Added (g.count + 1) (set kept g.count (in_line line).value) lines (take_lines (next, set kept g.count (in_line line).value) lines) =
    added next (set kept g.count (in_line line).value) lines e refl (omega arith) (both_right (holds_number line) (all_hold lines) t) in
    rw (number-kept g kept (in_line line) p some e)
    (record {
      more = omega (arith, a.more);
      none = a.none;
      pass = a.pass;
      stored = a.stored ∙ ap (λ (n : ℕ). sets (set kept g.count (in_line line).value) n (values_of lines)) (add-one g.count);
    })

-- so where each line of an input holds a number, all are counted, and kept as far as there are places
pub all-numbers : (kept : List ℕ) (parts : List (List ℕ)) → length (lines_of (joined parts)) ≤ most_lines → T (all_hold (lines_of (joined parts)))
    → AllGiven kept (lines_of (joined parts)) (take_parts (at_start, kept) parts)
all-numbers kept parts few t =
    let lines : List (List ℕ) = lines_of (joined parts) in
    let a : Added 0 kept lines (take_lines (nothing, kept) lines) = added nothing kept lines refl refl (omega arith) t in
    rw (in_parts kept parts)
    (record { count = omega (arith, a.more); place = a.none; refusal = a.pass; values = a.stored ∙ stored-first kept lines })

-- A line that holds none.

lines-append : (s : Given × List ℕ) (before after : List (List ℕ)) → take_lines s (before ++ after) ≡ take_lines (take_lines s before) after
unfolding take_lines
lines-append s [] after = refl
lines-append s (line ∷ before) after = lines-append (take_number s (in_line line)) before after

nothing-behind : (g : Given) (kept : List ℕ) (lines : List (List ℕ)) → passed g.refusal ≡ false → take_lines (g, kept) lines ≡ (g, kept)
unfolding take_lines
nothing-behind g kept [] h = refl
nothing-behind g kept (line ∷ lines) h = ap (λ (s : Given × List ℕ). take_lines s lines) (number_behind g kept (in_line line) h) ∙ nothing-behind g kept lines h

-- the first line that holds none is told by its place, with why, whatever stands behind it
pub first-none : (kept : List ℕ) (parts before : List (List ℕ)) (line : List ℕ) (after : List (List ℕ)) → lines_of (joined parts) ≡ before ++ (line ∷ after)
    → length before < most_lines → T (all_hold before) → holds_number line ≡ false → FirstNone kept before line (take_parts (at_start, kept) parts)
unfolding take_lines
first-none kept parts before line after is few t none =
    let s : Given × List ℕ = take_lines (nothing, kept) before in
    let a : Added 0 kept before s = added nothing kept before refl refl (omega arith) t in
    let some : eqb s.0.count most_lines ≡ false = ne_eqb s.0.count most_lines (λ m. omega (arith, a.more)) in
    let here : Given = record { count = s.0.count + 1; place = s.0.count + 1; refusal = (in_line line).refusal } in
    let out : take_parts (at_start, kept) parts ≡ (here, s.1) =
    in_parts kept parts
    ∙ ap (take_lines (nothing, kept)) is
    ∙ lines-append (nothing, kept) before (line ∷ after)
    ∙ ap (λ (u : Given × List ℕ). take_lines u after) (number-none s.0 s.1 (in_line line) a.pass some none)
    ∙ nothing-behind here s.1 after none in
    rw out
    (record { count = omega (arith, a.more); place = omega (arith, a.more); refusal = refl; values = a.stored ∙ stored-first kept before })
