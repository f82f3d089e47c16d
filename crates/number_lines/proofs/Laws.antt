-- Whether a run is full, what the end of a line leaves, and one turn of the loop over a part of the input, by what the
-- definitions compute; the bytes of one line are taken at once, by induction over them.
use Prim.Native.Nat.{ℕ, suc, ◌+◌, ◌-◌, ◌≤◌, ◌<◌}
use mathlib.Core.Bool.{Bool, true, false, cond}
use mathlib.Core.List.{List, [], ◌∷◌}
use mathlib.Core.Path.{◌≡◌, refl, sym, ap, ◌∙◌}
use native.Mathlib.Nat.{not-suc-le-zero}
use native.Mathlib.Omega.{arith}
use lib.Dec.{eqb, leb}
use lib.ListN.{length, set, drop, drop_of_length-le, length-drop, length-set}
use lib.Seq.{drop-drop}
use borrow.Author.Tests.{le-leb, lt-leb, leb-true, leb-false}
use Rattle.line_reader.proofs.Laws.{part-goes_on}
use Rattle.line_reader.specs.Lines.{line_feed, part_of}
use Rattle.line_reader.specs.declared.LinePart.{LinePart}
use Rattle.number.proofs.Laws.{either}
use Rattle.number.specs.Steps.{start, step_of, finish_before_of, has_character}
use Rattle.number_lines.specs.Runs.{is_full, on_line, end_line, take_from, take_last}
use Rattle.number_lines.specs.declared.Lines.{Lines}
use Rattle.number_lines.specs.declared.LinesPart.{LinesPart}
use Rattle.refusals.specs.Refusals.{passed}

-- Whether a run is full, without the sum of both counts.

pub full_of_both : (places numbers none : ℕ) → leb (places - numbers) none ≡ leb places (numbers + none)
full_of_both places numbers none = by-test (leb places (numbers + none)) refl
  where
    by-test : (b : Bool) → leb places (numbers + none) ≡ b → leb (places - numbers) none ≡ b
    by-test true e = let l = leb-true places (numbers + none) e in le-leb (places - numbers) none (omega arith)
    by-test false e = let l = leb-false places (numbers + none) e in lt-leb (places - numbers) none (omega arith)

-- The end of a line.

module _ (l : Lines) (run : List ℕ) where
  pub end_full : is_full l (length run) ≡ true → end_line l run ≡ (l, run)
  unfolding end_line
  end_full h = rw h

  module _ (h : is_full l (length run) ≡ false) where
    pub some-place : l.numbers + l.none < length run
    some-place = leb-false (length run) (l.numbers + l.none) h

    pub end-number : passed (finish_before_of l.line).refusal ≡ true
        → end_line l run ≡ (record { line = start; numbers = l.numbers + 1; none = l.none }, set run l.numbers (finish_before_of l.line).value)
    unfolding end_line
    end-number e = rw (h, e)

    pub end_none : passed (finish_before_of l.line).refusal ≡ false → end_line l run ≡ (record { line = start; numbers = l.numbers; none = l.none + 1 }, run)
    unfolding end_line
    end_none e = rw (h, e)

pub last_open : (l : Lines) (run : List ℕ) → has_character l.line.stage ≡ true → take_last l run ≡ end_line l run
unfolding take_last
last_open l run h = rw h

pub last_none : (l : Lines) (run : List ℕ) → has_character l.line.stage ≡ false → take_last l run ≡ (l, run)
unfolding take_last
last_none l run h = rw h

-- A part of the input.

abbrev Taken : Type 0
Taken = LinesPart × List ℕ

-- nothing more is taken
abbrev pub stopped : Lines → List ℕ → ℕ → Taken
stopped l run at = (record { lines = l; next = at }, run)

pub take_done : (l : Lines) (run s : List ℕ) (at : ℕ) → length s ≤ at → take_from l run at (drop at s) ≡ stopped l run at
unfolding take_from
take_done l run s at h = rw (drop_of_length-le s h)

pub take_full : (l : Lines) (run : List ℕ) (at : ℕ) (w : List ℕ) → is_full l (length run) ≡ true → take_from l run at w ≡ stopped l run at
unfolding take_from
take_full l run at [] h = refl
take_full l run at (b ∷ w) h = rw h

-- the bytes of one line are taken at once: where a line feed ends it, the next line follows
unfoldable after_part : Lines → List ℕ → ℕ → List ℕ → LinePart → Taken
after_part l run at w p =
    cond p.ended
    (take_from (end_line (on_line l p.state) run).0 (end_line (on_line l p.state) run).1 p.next (drop (p.next - at) w))
    (stopped (on_line l p.state) run p.next)

by-line : (l : Lines) (run : List ℕ) (at : ℕ) (w : List ℕ) → is_full l (length run) ≡ false
    → take_from l run at w ≡ after_part l run at w (part_of l.line at w)
unfolding take_from after_part part_of
by-line l run at [] h = refl
by-line l run at (b ∷ w) h = rw h (by_feed (eqb b line_feed) (by-line (on_line l (step_of l.line b)) run (at + 1) w h))
  where
    one : drop (at + 1 - at) (b ∷ w) ≡ w
    one = let e : at + 1 - at ≡ 1 = omega arith in rw e

    further : (p : LinePart) → at + 1 ≤ p.next → drop (p.next - (at + 1)) w ≡ drop (p.next - at) (b ∷ w)
    further p g = let e : p.next - at ≡ suc (p.next - (at + 1)) = omega arith in rw e

    by_feed : (f : Bool)
        → take_from (on_line l (step_of l.line b)) run (at + 1) w
        ≡ after_part (on_line l (step_of l.line b)) run (at + 1) w (part_of (step_of l.line b) (at + 1) w)
        → cond f (take_from (end_line l run).0 (end_line l run).1 (at + 1) w) (take_from (on_line l (step_of l.line b)) run (at + 1) w)
        ≡ after_part l run at (b ∷ w) (cond f (record { state = l.line; next = at + 1; ended = true }) (part_of (step_of l.line b) (at + 1) w))
    by_feed true more = rw one
    by_feed false more =
        let p : LinePart = part_of (step_of l.line b) (at + 1) w in
        more
        ∙ ap
        (λ (rest : List ℕ).
        cond p.ended
        (take_from (end_line (on_line l p.state) run).0 (end_line (on_line l p.state) run).1 p.next rest)
        (stopped (on_line l p.state) run p.next))
        (further p (part-goes_on (step_of l.line b) (at + 1) w))

-- the loop takes a line of the part from its offset on
module _ (l : Lines) (run s : List ℕ) (at : ℕ) {p : LinePart} (is : p ≡ part_of l.line at (drop at s)) (h : is_full l (length run) ≡ false) where
  the_line : take_from l run at (drop at s) ≡ after_part l run at (drop at s) p
  the_line = by-line l run at (drop at s) h ∙ ap (after_part l run at (drop at s)) (sym is)

  pub line-left : p.ended ≡ false → take_from l run at (drop at s) ≡ stopped (on_line l p.state) run p.next
  unfolding after_part
  line-left e = the_line ∙ rw e

  pub line-ended : {after : Lines × List ℕ} → after ≡ end_line (on_line l p.state) run → p.ended ≡ true
      → take_from l run at (drop at s) ≡ take_from after.0 after.1 p.next (drop p.next s)
  unfolding after_part
  line-ended {after} w e =
      let goes : at ≤ p.next = rw is (part-goes_on l.line at (drop at s)) in
      let there : at + (p.next - at) ≡ p.next = omega arith in
      the_line ∙ rw (e, w, drop-drop, there)

-- the run keeps its length
pub same-places : (l : Lines) (run : List ℕ) → length (end_line l run).1 ≡ length run
unfolding end_line
same-places l run =
    either (λ (r : Lines × List ℕ). length r.1 ≡ length run) (is_full l (length run)) refl
    (either (λ (r : Lines × List ℕ). length r.1 ≡ length run) (passed (finish_before_of l.line).refusal) (simp length-set) refl)

-- A part never ends before its offset, and where the run is not full it takes a byte: so a loop that takes part after part ends.

pub goes_on : (l : Lines) (run : List ℕ) (at : ℕ) (w : List ℕ) → at ≤ (take_from l run at w).0.next
unfolding take_from
goes_on l run at [] = omega arith
goes_on l run at (b ∷ w) =
    either (λ (r : Taken). at ≤ r.0.next) (is_full l (length run)) (omega arith)
    (either (λ (r : Taken). at ≤ r.0.next) (eqb b line_feed) (omega (arith, goes_on (end_line l run).0 (end_line l run).1 (at + 1) w))
    (omega (arith, goes_on (on_line l (step_of l.line b)) run (at + 1) w)))

moves : (l : Lines) (run : List ℕ) (at : ℕ) (w : List ℕ) → is_full l (length run) ≡ false → 0 < length w → at < (take_from l run at w).0.next
unfolding take_from
moves l run at [] h some = absurd (not-suc-le-zero some)
moves l run at (b ∷ w) h some =
    rw h
    (either (λ (r : Taken). at < r.0.next) (eqb b line_feed) (omega (arith, goes_on (end_line l run).0 (end_line l run).1 (at + 1) w))
    (omega (arith, goes_on (on_line l (step_of l.line b)) run (at + 1) w)))

pub lines_moved : (l : Lines) (run s : List ℕ) (at : ℕ) {out : Taken} → out ≡ take_from l run at (drop at s) → is_full l (length run) ≡ false → at < length s → at < out.0.next
lines_moved l run s at e h some = rw e (moves l run at (drop at s) h (omega (arith, length-drop at s)))
