-- One line more by the cases of the definition; and the bytes of one line are taken at once, by induction over them.
use Prim.Native.Nat.{ℕ, suc, ◌+◌, ◌-◌, ◌≤◌}
use mathlib.Core.Bool.{Bool, true, false, cond}
use mathlib.Core.List.{List, [], ◌∷◌}
use mathlib.Core.Path.{◌≡◌, refl, sym, ap, ◌∙◌}
use native.Mathlib.Omega.{arith}
use lib.Dec.{eqb}
use lib.ListN.{length, set, drop, drop_of_length-le, length-set}
use lib.Seq.{drop-drop, drop-nil}
use Rattle.given_numbers.specs.Given.{end_line, is_shut, most_lines, next_line, on_line, take_bytes, take_last, take_number}
use Rattle.given_numbers.specs.declared.Given.{Given}
use Rattle.given_numbers.specs.declared.Reading.{Reading}
use Rattle.line_reader.proofs.Laws.{part-goes_on}
use Rattle.line_reader.specs.Lines.{line_feed, part_of}
use Rattle.line_reader.specs.declared.LinePart.{LinePart}
use Rattle.number.proofs.Laws.{either}
use Rattle.number.specs.Steps.{step_of, has_character}
use Rattle.number.specs.declared.Number.{Number}
use Rattle.refusals.specs.Refusals.{passed}

-- One line more.

module _ (g : Given) (kept : List ℕ) (n : Number) where
  pub number_behind : passed g.refusal ≡ false → take_number (g, kept) n ≡ (g, kept)
  unfolding take_number
  number_behind h = rw h

  module _ (h : passed g.refusal ≡ true) (m : eqb g.count most_lines ≡ false) where
    pub number-none : passed n.refusal ≡ false
        → take_number (g, kept) n ≡ (record { count = g.count + 1; place = g.count + 1; refusal = n.refusal }, kept)
    unfolding take_number
    number-none e = rw (h, m, e)

    pub number-kept : passed n.refusal ≡ true
        → take_number (g, kept) n ≡ (record { count = g.count + 1; place = 0; refusal = n.refusal }, set kept g.count n.value)
    unfolding take_number
    number-kept e = rw (h, m, e)

-- the places stay as many
pub same-places : (s : Given × List ℕ) (n : Number) → length (take_number s n).1 ≡ length s.1
unfolding take_number
same-places (g, kept) n =
    let P : Given × List ℕ → Type 0 = λ s. length s.1 ≡ length kept in
    either P (is_shut g) refl (either P (passed n.refusal) (length-set kept g.count n.value) refl)

-- The bytes of one line: where a line feed ends it, it is taken, and the next one begins.

abbrev pub after_line : Reading → List ℕ → LinePart → Reading × List ℕ
after_line r kept p = cond p.ended (next_line (end_line (on_line r p.state, kept))) (on_line r p.state, kept)

by-line : (r : Reading) (kept : List ℕ) (at : ℕ) (w : List ℕ)
    → take_bytes (r, kept) w ≡ take_bytes (after_line r kept (part_of r.line at w)) (drop ((part_of r.line at w).next - at) w)
unfolding take_bytes part_of
by-line r kept at [] = rw (drop-nil {A = ℕ} (at - at))
by-line r kept at (b ∷ w) = by_feed (eqb b line_feed) (by-line (on_line r (step_of r.line b)) kept (at + 1) w)
  where
    stepped : LinePart
    stepped = part_of (step_of r.line b) (at + 1) w

    one : drop (at + 1 - at) (b ∷ w) ≡ w
    one = let e : at + 1 - at ≡ 1 = omega arith in rw e

    further : at + 1 ≤ stepped.next → drop (stepped.next - (at + 1)) w ≡ drop (stepped.next - at) (b ∷ w)
    further g = let e : stepped.next - at ≡ suc (stepped.next - (at + 1)) = omega arith in rw e

    by_feed : (f : Bool)
        → take_bytes (on_line r (step_of r.line b), kept) w ≡ take_bytes (after_line r kept stepped) (drop (stepped.next - (at + 1)) w)
        → take_bytes (cond f (next_line (end_line (r, kept))) (on_line r (step_of r.line b), kept)) w
        ≡ take_bytes (after_line r kept (cond f (record { state = r.line; next = at + 1; ended = true }) stepped))
        (drop ((cond f (record { state = r.line; next = at + 1; ended = true }) stepped).next - at) (b ∷ w))
    by_feed true more = rw one
    by_feed false more = more ∙ ap (take_bytes (after_line r kept stepped)) (further (part-goes_on (step_of r.line b) (at + 1) w))

-- the loop takes a line of the part from its offset on
pub line_taken : (r : Reading) (kept s : List ℕ) (at : ℕ) {p : LinePart} → p ≡ part_of r.line at (drop at s)
    → take_bytes (r, kept) (drop at s) ≡ take_bytes (after_line r kept p) (drop p.next s)
line_taken r kept s at {p} is =
    let goes : at ≤ p.next = rw is (part-goes_on r.line at (drop at s)) in
    let there : at + (p.next - at) ≡ p.next = omega arith in
    by-line r kept at (drop at s)
    ∙ ap (λ (q : LinePart). take_bytes (after_line r kept q) (drop (q.next - at) (drop at s))) (sym is)
    ∙ rw (drop-drop, there)

pub bytes-done : (st : Reading × List ℕ) (s : List ℕ) (at : ℕ) → length s ≤ at → take_bytes st (drop at s) ≡ st
unfolding take_bytes
bytes-done st s at h = rw (drop_of_length-le s h)

-- The end of the input.

module _ (r : Reading) (kept : List ℕ) where
  pub last_open : has_character r.line.stage ≡ true → take_last (r, kept) ≡ end_line (r, kept)
  unfolding take_last
  last_open h = rw h

  pub last_none : has_character r.line.stage ≡ false → take_last (r, kept) ≡ (r.given, kept)
  unfolding take_last
  last_none h = rw h
