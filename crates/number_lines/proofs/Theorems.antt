-- What the promises come to: however an input is cut into parts, the run holds the numbers of its first lines, and the rest of the input holds the other lines. By
-- induction over the bytes: the state of a line is that of the bytes taken of it so far.
use Prim.Native.Nat.{ℕ, suc, ◌+◌, ◌-◌, ◌≤◌}
use mathlib.Core.Bool.{Bool, true, false, false≢true, cond, not}
use mathlib.Core.List.{List, [], ◌∷◌, ◌++◌, append_assoc, append-nil}
use mathlib.Core.Path.{◌≡◌, refl, sym, ap, ◌∙◌}
use native.Mathlib.Numerals.{add-one}
use native.Mathlib.Omega.{arith}
use lib.Dec.{T, eqb}
use lib.ListN.{length, set, take, drop, length-take}
use lib.Seq.{drop-append-add, drop-nil, sets, sets-eq, take-nil, take_at}
use borrow.Author.Tests.{eqb-true, leb-true, lt-ltb}
use Rattle.line_reader.proofs.Splitting.{line_alone, line_and_rest, longer-line}
use Rattle.line_reader.proofs.Theorems.{finished, one_byte-more, opened, Reads}
use Rattle.line_reader.specs.Lines.{joined, line_feed, lines_of, one_line}
use Rattle.line_reader.specs.declared.Rest.TheVariants.{Skipped}
use Rattle.number.proofs.Laws.{either}
use Rattle.number.specs.Steps.{start, step_of, handed_on, finish_before_of, has_character}
use Rattle.number.specs.declared.Number.{Number}
use Rattle.number_lines.proofs.Laws.{end_full, end_none, end-number, last_none, last_open, goes_on, same-places, some-place, stopped, take_full}
use Rattle.number_lines.specs.Lines.{holds_number, in_line, none_of, numbers_of}
use Rattle.number_lines.specs.Runs.{end_line, Holds, is_full, no_lines, on_line, take_from, take_last, take_parts}
use Rattle.number_lines.specs.declared.Lines.{Lines}
use Rattle.number_lines.specs.declared.LinesPart.{LinesPart}
use Rattle.promise.proofs.Tests.{is_true}
use Rattle.refusals.specs.Refusals.{passed}

-- what lines add to a run that has so many numbers and so many lines that held none
record Added (numbers none : ℕ) (run : List ℕ) (lines : List (List ℕ)) (out : Lines × List ℕ) : Type 0 where
  more : out.0.numbers ≡ numbers + length (numbers_of lines)
  bare : out.0.none ≡ none + none_of lines
  stored : out.1 ≡ sets run numbers (numbers_of lines)

-- how many lines it still takes
abbrev left : ℕ → ℕ → List ℕ → ℕ
left numbers none run = length run - (numbers + none)

nothing-added : (l : Lines) (run : List ℕ) → Added l.numbers l.none run [] (l, run)
unfolding numbers_of none_of
nothing-added l run = record { more = omega arith; bare = omega arith; stored = refl }

-- The end of a line.

module _ (l : Lines) (run : List ℕ) (h : is_full l (length run) ≡ false) where
  -- what holds of the run with a number more, and of the run with a line more that held none, holds at the end of a line
  end_by : (P : Lines × List ℕ → Type 0)
      → (passed (finish_before_of l.line).refusal ≡ true → P (record { line = start; numbers = l.numbers + 1; none = l.none }, set run l.numbers (finish_before_of l.line).value))
      → (passed (finish_before_of l.line).refusal ≡ false → P (record { line = start; numbers = l.numbers; none = l.none + 1 }, run))
      → P (end_line l run)
  end_by P one other = by-test (passed (finish_before_of l.line).refusal) refl
    where
      by-test : (b : Bool) → passed (finish_before_of l.line).refusal ≡ b → P (end_line l run)
      by-test true e = rw (end-number l run h e) (one e)
      by-test false e = rw (end_none l run h e) (other e)

  starts_again : (end_line l run).0.line ≡ start
  starts_again = end_by (λ (r : Lines × List ℕ). r.0.line ≡ start) (λ e. refl) (λ e. refl)

  one_less : left l.numbers l.none run ≡ suc (left (end_line l run).0.numbers (end_line l run).0.none (end_line l run).1)
  one_less =
      let p = some-place l run h in
      rw (same-places l run)
      (end_by (λ (r : Lines × List ℕ). left l.numbers l.none run ≡ suc (length run - (r.0.numbers + r.0.none))) (λ e. omega arith) (λ e. omega arith))

  -- the line and what follows it
  line-added : (line : List ℕ) (lines : List (List ℕ)) (out : Lines × List ℕ) → finish_before_of l.line ≡ in_line line
      → Added (end_line l run).0.numbers (end_line l run).0.none (end_line l run).1 lines out
      → Added l.numbers l.none run (line ∷ lines) out
  unfolding numbers_of none_of
  line-added line lines out is =
      end_by (λ (r : Lines × List ℕ). Added r.0.numbers r.0.none r.1 lines out → Added l.numbers l.none run (line ∷ lines) out)
      (λ e a.
      let one : holds_number line ≡ true = ap (λ (n : Number). passed n.refusal) (sym is) ∙ e in
      record {
        more = rw one (omega (arith, a.more));
        bare = rw one a.bare;
        stored = rw (one, ← is) (a.stored ∙ ap (λ (k : ℕ). sets (set run l.numbers (finish_before_of l.line).value) k (numbers_of lines)) (add-one l.numbers));
      })
      (λ e a.
      let other : holds_number line ≡ false = ap (λ (n : Number). passed n.refusal) (sym is) ∙ e in
      record { more = rw other a.more; bare = rw other (omega (arith, a.bare)); stored = rw other a.stored })

-- The bytes of an input.

-- what lines add to a run as it stands, as far as it takes them
abbrev Adds : Lines → List ℕ → List (List ℕ) → Lines × List ℕ → Type 0
Adds l run lines out = Added l.numbers l.none run (take (left l.numbers l.none run) lines) out

-- the end of an input, after a part
abbrev last_of : LinesPart × List ℕ → Lines × List ℕ
last_of r = take_last r.0.lines r.1

-- a run that is full is left as it is
full_adds : (l : Lines) (run : List ℕ) (lines : List (List ℕ)) → is_full l (length run) ≡ true → Adds l run lines (take_last l run)
unfolding take_last
full_adds l run lines h =
    let f = leb-true (length run) (l.numbers + l.none) h in
    let none_left : left l.numbers l.none run ≡ 0 = omega arith in
    rw none_left (either (Added l.numbers l.none run []) (has_character l.line.stage) (rw (end_full l run h) (nothing-added l run)) (nothing-added l run))

-- at the end of the input
last-adds : (l : Lines) (run line : List ℕ) → is_full l (length run) ≡ false → Reads l.line line → Adds l run (lines_of line) (take_last l run)
unfolding lines_of
last-adds l run [] h r = rw (last_none l run (opened l.line [] r), take-nil (left l.numbers l.none run)) (nothing-added l run)
last-adds l run (b ∷ line) h r =
    rw (last_open l run (opened l.line (b ∷ line) r ∙ lt-ltb 0 (length (b ∷ line)) (omega arith)), line_alone b line r.0, one_less l run h, take-nil (left (end_line l run).0.numbers (end_line l run).0.none (end_line l run).1))
    (line-added l run h (b ∷ line) [] (end_line l run) (finished l.line (b ∷ line) r Skipped) (nothing-added (end_line l run).0 (end_line l run).1))

-- and from any byte of it on
adds : (at : ℕ) (l : Lines) (run line w : List ℕ) → Reads l.line line → Adds l run (lines_of (line ++ w)) (last_of (take_from l run at w))
unfolding take_from handed_on one_line
adds at l run line [] r = by_full (is_full l (length run)) refl
  where
    by_full : (f : Bool) → is_full l (length run) ≡ f → Adds l run (lines_of (line ++ [])) (take_last l run)
    by_full true h = full_adds l run (lines_of (line ++ [])) h
    by_full false h = rw (append-nil line) (last-adds l run line h r)
adds at l run line (b ∷ w) r =
    by_full (is_full l (length run)) refl (λ e. adds (at + 1) (end_line l run).0 (end_line l run).1 [] w (tt, e))
    (λ n. adds (at + 1) (on_line l (step_of l.line b)) run (line ++ (b ∷ [])) w (one_byte-more l.line line b r n))
  where
    fed : LinesPart × List ℕ
    fed = take_from (end_line l run).0 (end_line l run).1 (at + 1) w

    stepped : LinesPart × List ℕ
    stepped = take_from (on_line l (step_of l.line b)) run (at + 1) w

    by_feed : is_full l (length run) ≡ false
        → Adds (end_line l run).0 (end_line l run).1 (lines_of w) (last_of fed)
        → (eqb b line_feed ≡ false → Adds l run (lines_of ((line ++ (b ∷ [])) ++ w)) (last_of stepped))
        → (f : Bool) → eqb b line_feed ≡ f → Adds l run (lines_of (line ++ (b ∷ w))) (last_of (cond f fed stepped))
    by_feed h feed byte true e =
        rw (eqb-true b line_feed e, line_and_rest line w r.0, one_less l run h)
        (line-added l run h line (take (left (end_line l run).0.numbers (end_line l run).0.none (end_line l run).1) (lines_of w)) (last_of fed) (finished l.line line r Skipped) feed)
    by_feed h feed byte false e = rw (append_assoc line (b ∷ []) w) at (byte e)

    by_full : (f : Bool) → is_full l (length run) ≡ f
        → ((end_line l run).0.line ≡ start → Adds (end_line l run).0 (end_line l run).1 (lines_of w) (last_of fed))
        → (eqb b line_feed ≡ false → Adds l run (lines_of ((line ++ (b ∷ [])) ++ w)) (last_of stepped))
        → Adds l run (lines_of (line ++ (b ∷ w))) (last_of (cond f (stopped l run at) (cond (eqb b line_feed) fed stepped)))
    by_full true h feed byte = full_adds l run (lines_of (line ++ (b ∷ w))) h
    by_full false h feed byte = by_feed h (feed (starts_again l run h)) byte (eqb b line_feed) refl

-- The parts of an input.

-- where a run stands does not depend on the offset
abbrev stands_at : LinesPart × List ℕ → Lines × List ℕ
stands_at r = (r.0.lines, r.1)

-- two outcomes of one test
both : {A B : Type 0} (R : A → B → Type 0) (t : Bool) {a b : A} {c d : B} → R a c → R b d → R (cond t a b) (cond t c d)
both R true p q = p
both R false p q = q

any_offset : (at other : ℕ) (l : Lines) (run w : List ℕ) → stands_at (take_from l run at w) ≡ stands_at (take_from l run other w)
unfolding take_from
any_offset at other l run [] = refl
any_offset at other l run (b ∷ w) =
    let R : LinesPart × List ℕ → LinesPart × List ℕ → Type 0 = λ p q. stands_at p ≡ stands_at q in
    both R (is_full l (length run)) refl
    (both R (eqb b line_feed) (any_offset (at + 1) (other + 1) (end_line l run).0 (end_line l run).1 w)
    (any_offset (at + 1) (other + 1) (on_line l (step_of l.line b)) run w))

-- nor on where the input is cut
abbrev Same : ℕ → List ℕ → LinesPart × List ℕ → LinesPart × List ℕ → Type 0
Same at w whole cut = stands_at whole ≡ stands_at (take_from cut.0.lines cut.1 at w)

in_parts : (at other : ℕ) (l : Lines) (run p q : List ℕ) → Same other q (take_from l run at (p ++ q)) (take_from l run at p)
unfolding take_from
in_parts at other l run [] q = any_offset at other l run q
in_parts at other l run (b ∷ p) q =
    by_full (is_full l (length run)) refl _ _
    (both (Same other q) (eqb b line_feed) (in_parts (at + 1) other (end_line l run).0 (end_line l run).1 p q)
    (in_parts (at + 1) other (on_line l (step_of l.line b)) run p q))
  where
    by_full : (f : Bool) → is_full l (length run) ≡ f → (whole cut : LinesPart × List ℕ) → Same other q whole cut
        → Same other q (cond f (stopped l run at) whole) (cond f (stopped l run at) cut)
    by_full true h whole cut e = ap stands_at (sym (take_full l run other q h))
    by_full false h whole cut e = e

one-part : (l : Lines) (run : List ℕ) (parts : List (List ℕ)) → take_parts l run parts ≡ last_of (take_from l run 0 (joined parts))
unfolding take_parts take_from joined
one-part l run [] = refl
one-part l run (part ∷ parts) =
    one-part (take_from l run 0 part).0.lines (take_from l run 0 part).1 parts
    ∙ ap (λ (r : Lines × List ℕ). take_last r.0 r.1) (sym (in_parts 0 0 l run part (joined parts)))

few-numbers : (lines : List (List ℕ)) → length (numbers_of lines) ≤ length lines
unfolding numbers_of
few-numbers [] = omega arith
few-numbers (line ∷ lines) =
    either (λ (vs : List ℕ). length vs ≤ length (line ∷ lines)) (holds_number line) (omega (arith, few-numbers lines)) (omega (arith, few-numbers lines))

-- however an input is cut into parts: a run of n places holds the numbers of the first n lines, in order, and how many of these held none
pub first-lines : (parts : List (List ℕ)) (run : List ℕ) → Holds (take (length run) (lines_of (joined parts))) (take_parts no_lines run parts)
unfolding handed_on one_line
first-lines parts run =
    let lines : List (List ℕ) = take (length run) (lines_of (joined parts)) in
    let all : length run - 0 ≡ length run = omega arith in
    let a : Added 0 0 run lines (take_parts no_lines run parts) = rw (one-part no_lines run parts) (rw all at (adds 0 no_lines run [] (joined parts) (tt, refl))) in
    let few : length (numbers_of lines) ≤ length run = omega (arith, few-numbers lines, length-take (length run) (lines_of (joined parts))) in
    record {
      numbers = a.more ∙ omega arith;
      values = rw (a.stored, sets-eq (numbers_of lines) run 0 (omega arith)) (take_at (numbers_of lines) _ (take_parts no_lines run parts).0.numbers (omega (arith, a.more)));
      none = a.bare ∙ omega arith;
    }

-- What is left of an input.

-- a run that is full is not within a line
abbrev Between : Lines → List ℕ → List ℕ → Type 0
Between l run line = is_full l (length run) ≡ true → line ≡ []

abbrev Filled : LinesPart × List ℕ → Type 0
Filled r = is_full r.0.lines (length r.1) ≡ true

-- from any byte on, the bytes that were not taken hold the lines that were not
abbrev Leaves : ℕ → List ℕ → List (List ℕ) → LinesPart × List ℕ → Type 0
Leaves at w lines r = Filled r → lines_of (drop (r.0.next - at) w) ≡ lines

leaves : (at : ℕ) (l : Lines) (run line w : List ℕ) → T (one_line line) → Between l run line
    → Leaves at w (drop (left l.numbers l.none run) (lines_of (line ++ w))) (take_from l run at w)
unfolding take_from lines_of one_line
leaves at l run line [] t z f = rw (z f, drop-nil {A = ℕ} (at - at), drop-nil {A = List ℕ} (left l.numbers l.none run))
leaves at l run line (b ∷ w) t z f =
    by_full (is_full l (length run)) refl (leaves (at + 1) (end_line l run).0 (end_line l run).1 [] w tt (λ g. refl)) (λ n. leaves (at + 1) (on_line l (step_of l.line b)) run (line ++ (b ∷ [])) w n) f
  where
    fed : LinesPart × List ℕ
    fed = take_from (end_line l run).0 (end_line l run).1 (at + 1) w

    stepped : LinesPart × List ℕ
    stepped = take_from (on_line l (step_of l.line b)) run (at + 1) w

    All : LinesPart × List ℕ → Type 0
    All r = Leaves at (b ∷ w) (drop (left l.numbers l.none run) (lines_of (line ++ (b ∷ w)))) r

    -- one byte further
    further : (r : LinesPart × List ℕ) → at + 1 ≤ r.0.next → drop (r.0.next - at) (b ∷ w) ≡ drop (r.0.next - (at + 1)) w
    further r g = let e : r.0.next - at ≡ suc (r.0.next - (at + 1)) = omega arith in rw e

    by_feed : is_full l (length run) ≡ false
        → Leaves (at + 1) w (drop (left (end_line l run).0.numbers (end_line l run).0.none (end_line l run).1) (lines_of w)) fed
        → (T (one_line (line ++ (b ∷ []))) → Leaves (at + 1) w (drop (left l.numbers l.none run) (lines_of ((line ++ (b ∷ [])) ++ w))) stepped)
        → (f : Bool) → eqb b line_feed ≡ f → All (cond f fed stepped)
    by_feed h feed byte true e g =
        rw (further fed (goes_on (end_line l run).0 (end_line l run).1 (at + 1) w), eqb-true b line_feed e, line_and_rest line w t, one_less l run h) (feed g)
    by_feed h feed byte false e g =
        rw (further stepped (goes_on (on_line l (step_of l.line b)) run (at + 1) w), ← append_assoc line (b ∷ []) w) (byte (longer-line line b t (is_true (ap not e))) g)

    by_full : (f : Bool) → is_full l (length run) ≡ f
        → Leaves (at + 1) w (drop (left (end_line l run).0.numbers (end_line l run).0.none (end_line l run).1) (lines_of w)) fed
        → (T (one_line (line ++ (b ∷ []))) → Between l run (line ++ (b ∷ [])) → Leaves (at + 1) w (drop (left l.numbers l.none run) (lines_of ((line ++ (b ∷ [])) ++ w))) stepped)
        → All (cond f (stopped l run at) (cond (eqb b line_feed) fed stepped))
    by_full true h feed byte g =
        let here : at - at ≡ 0 = omega arith in
        let none_left : left l.numbers l.none run ≡ 0 = omega (arith, leb-true (length run) (l.numbers + l.none) h) in
        rw (here, none_left, z h)
    by_full false h feed byte g = by_feed h feed (λ n. byte n (λ e. absurd (false≢true (sym h ∙ e)))) (eqb b line_feed) refl g

-- where the run is not full, what follows is taken as if it had come at once
abbrev Cut : ℕ → List ℕ → LinesPart × List ℕ → LinesPart × List ℕ → Type 0
Cut at w whole cut = is_full cut.0.lines (length cut.1) ≡ false → whole ≡ take_from cut.0.lines cut.1 at w

at_once : (at : ℕ) (l : Lines) (run p q : List ℕ) → Cut (at + length p) q (take_from l run at (p ++ q)) (take_from l run at p)
unfolding take_from
at_once at l run [] q n = ap (λ (k : ℕ). take_from l run k q) (omega arith)
at_once at l run (b ∷ p) q n =
    let far : at + 1 + length p ≡ at + suc (length p) = omega arith in
    by_full (is_full l (length run)) refl _ _
    (both (Cut (at + suc (length p)) q) (eqb b line_feed) (rw far at (at_once (at + 1) (end_line l run).0 (end_line l run).1 p q))
    (rw far at (at_once (at + 1) (on_line l (step_of l.line b)) run p q))) n
  where
    by_full : (f : Bool) → is_full l (length run) ≡ f → (whole cut : LinesPart × List ℕ) → Cut (at + suc (length p)) q whole cut
        → Cut (at + suc (length p)) q (cond f (stopped l run at) whole) (cond f (stopped l run at) cut)
    by_full true h whole cut e m = absurd (false≢true (sym m ∙ h))
    by_full false h whole cut e m = e m

-- an offset moves the next one by as much
moved_by : (k at : ℕ) (l : Lines) (run w : List ℕ) → (take_from l run (k + at) w).0.next ≡ k + (take_from l run at w).0.next
unfolding take_from
moved_by k at l run [] = refl
moved_by k at l run (b ∷ w) =
    let R : LinesPart × List ℕ → LinesPart × List ℕ → Type 0 = λ p q. p.0.next ≡ k + q.0.next in
    let far : k + (at + 1) ≡ k + at + 1 = omega arith in
    both R (is_full l (length run)) refl
    (both R (eqb b line_feed) (rw far at (moved_by k (at + 1) (end_line l run).0 (end_line l run).1 w))
    (rw far at (moved_by k (at + 1) (on_line l (step_of l.line b)) run w)))

-- where a part fills the run, the rest of the part begins with the line after those that were taken: so that run after run takes each line once
pub next-lines : (before part run : List ℕ)
    → (let r = take_from no_lines run 0 before in
    let s = take_from r.0.lines r.1 0 part in
    is_full r.0.lines (length r.1) ≡ false → is_full s.0.lines (length s.1) ≡ true
    → lines_of (drop s.0.next part) ≡ drop (length run) (lines_of (before ++ part)))
unfolding one_line
next-lines before part run some full =
    let r : LinesPart × List ℕ = take_from no_lines run 0 before in
    let s : LinesPart × List ℕ = take_from r.0.lines r.1 0 part in
    let whole : LinesPart × List ℕ = take_from no_lines run 0 (before ++ part) in
    let is : whole ≡ take_from r.0.lines r.1 (length before + 0) part =
    at_once 0 no_lines run before part some ∙ ap (λ (k : ℕ). take_from r.0.lines r.1 k part) (omega arith) in
    let next : whole.0.next - 0 ≡ length before + s.0.next =
    omega (arith, ap (λ (x : LinesPart × List ℕ). x.0.next) is, moved_by (length before) 0 r.0.lines r.1 part) in
    let filled : is_full whole.0.lines (length whole.1) ≡ true =
    ap (λ (x : Lines × List ℕ). is_full x.0 (length x.1)) (ap stands_at is ∙ any_offset (length before + 0) 0 r.0.lines r.1 part) ∙ full in
    let all : length run - 0 ≡ length run = omega arith in
    sym (ap lines_of (drop-append-add before part s.0.next)) ∙ rw (next, all) at (leaves 0 no_lines run [] (before ++ part) tt (λ g. refl) filled)
