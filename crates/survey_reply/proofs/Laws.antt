-- What the definitions give under the tests that the code made: by computing, and for the loops by one turn and the end of each.
use Prim.Native.Nat.{ℕ, zero, suc, ◌+◌, ◌-◌, ◌^◌, ◌≤◌, ◌<◌}
use mathlib.Core.Bool.{Bool, true, false, false≢true, ◌&&◌}
use mathlib.Core.List.{List, [], ◌∷◌, ◌++◌, append_assoc, append-nil}
use mathlib.Core.Path.{◌≡◌, refl, sym, ap, ap₂, subst, ◌∙◌}
use native.Mathlib.Numerals.{add-one}
use native.Mathlib.Omega.{arith}
use native.Mathlib.Nat.{add-suc, add-zero, suc-add, zero-add}
use lib.Dec.{T, eqb, leb, ltb, leb→le}
use lib.ListN.{length, get_or, take, drop, drop_of_length-le, length-drop, length-set}
use lib.Seq.{drop-cons, take_all, take_at}
use borrow.Author.Tests.{lt-ltb, le-ltb, eq-eqb, eqb-false, eqb-true, ne_eqb}
use Rattle.buffer.proofs.Appending.{measured, written}
use Rattle.buffer.specs.Appending.{Appends}
use Rattle.digits.specs.Digits.{digits_of, enough, numeral, unpadded}
use Rattle.number.proofs.Laws.{either}
use Rattle.number.specs.Numbers.{starts_with}
use Rattle.number.specs.Rest.{whole_of}
use Rattle.number.specs.declared.Number.{Number}
use Rattle.promise.proofs.Tests.{from, from_at}
use Rattle.refusals.specs.Values.{value_number, value_numbers}
use Rattle.std.specs.List as list
use Rattle.refusals.specs.Refusals.{passed}
use Rattle.std.specs.Prelude.{None, Some, nat_eq}
use Rattle.survey_reply.specs.Counts.{LabelOf, count_from, place_from, place_of, read_count}
use Rattle.survey_reply.specs.declared.Labelled.{Labelled}
use Rattle.survey_reply.specs.Replies.{count_line, front, is_said, label, said_from, said_line}
use Rattle.survey_reply.specs.Sums.{add_count, add_each, add_run}
use Rattle.texts.specs.Pool.{bytes}

-- Labels.

module _ (place : ℕ) where
  pub label-class : place < 64 → label place ≡ bytes "0x" ++ digits_of 16 2 place
  unfolding label
  label-class h = rw (lt-ltb place 64 h)

  pub label-refusal : 64 ≤ place → place < 73 → label place ≡ bytes "refused " ++ numeral 10 (value_number (place - 64))
  unfolding label
  label-refusal l h = rw (le-ltb place 64 l, lt-ltb place 73 h)

  pub label-none : 73 ≤ place → label place ≡ bytes "no number:"
  unfolding label
  label-none h = let l : 64 ≤ place = omega arith in rw (le-ltb place 64 l, le-ltb place 73 h)

-- Which places are said.

module _ (all : Bool) (place count : ℕ) where
  pub line-said : is_said all place count ≡ true → said_line all place count ≡ count_line place count
  unfolding said_line
  line-said e = rw e

  pub line-unsaid : is_said all place count ≡ false → said_line all place count ≡ []
  unfolding said_line
  line-unsaid e = rw e

-- one place more
said_more : (all : Bool) (totals : List ℕ) (k n : ℕ) → said_from all totals k (suc n) ≡ said_from all totals k n ++ said_line all (k + n) (get_or totals (k + n) 0)
unfolding said_from
said_more all totals k zero = rw (add-zero k) (append-nil (said_line all k (get_or totals k 0)))
said_more all totals k (suc n) =
    ap (λ (t : List ℕ). said_line all k (get_or totals k 0) ++ t) (said_more all totals (suc k) n)
    ∙ rw (suc-add k n, ← add-suc k n) (sym (append_assoc (said_line all k (get_or totals k 0)) (said_from all totals (suc k) n) (said_line all (k + suc n) (get_or totals (k + suc n) 0))))

pub one_place-more : (all : Bool) (totals : List ℕ) (n : ℕ) → said_from all totals 0 (n + 1) ≡ said_from all totals 0 n ++ said_line all n (get_or totals n 0)
one_place-more all totals n = rw (add-one n, said_more all totals 0 n, zero-add n)

pub no_place_yet : (all : Bool) (totals : List ℕ) → said_from all totals 0 0 ≡ []
unfolding said_from
no_place_yet all totals = refl

-- How a line begins: as the library says it.

swapped : (a b : ℕ) → eqb a b ≡ eqb b a
swapped a b = by (eqb b a) refl
  where
    by : (e : Bool) → eqb b a ≡ e → eqb a b ≡ e
    by true e = eq-eqb a b (sym (eqb-true b a e))
    by false e = ne_eqb a b (λ same. eqb-false b a e (sym same))

pub begins : (line text : List ℕ) → list.starts_with nat_eq line text ≡ starts_with text line
unfolding starts_with
begins line [] = refl
begins [] (p ∷ text) = refl
begins (b ∷ line) (p ∷ text) = by (eqb p b) (eqb b p) (swapped p b) (begins line text)
  where
    by : (e f : Bool) → e ≡ f → list.starts_with nat_eq line text ≡ starts_with text line
        → (e && list.starts_with nat_eq line text) ≡ (f && starts_with text line)
    by e f is rest = ap₂ (λ (x y : Bool). x && y) is rest

-- a line is as long as what begins it
pub begun-long : (text line : List ℕ) → starts_with text line ≡ true → length text ≤ length line
unfolding starts_with
begun-long [] line e = omega arith
begun-long (a ∷ text) [] e = absurd (false≢true e)
begun-long (a ∷ text) (b ∷ line) e = by_first (eqb b a) e (begun-long text line)
  where
    by_first : (f : Bool) → (f && starts_with text line) ≡ true → (starts_with text line ≡ true → length text ≤ length line) → length (a ∷ text) ≤ length (b ∷ line)
    by_first true u rest = let h = rest u in omega arith
    by_first false u rest = absurd (false≢true u)

-- What is put beside the line: the label and the space of a place, in a buffer that is long enough for each.

abbrev short : ℕ → Bool
short place = leb (length (front place)) 16

all_short : T (from short 0 74)
unfolding front label bytes digits_of unpadded enough value_numbers
all_short = tt

pub front-short : (place : ℕ) → place < 74 → length (front place) ≤ 16
front-short place h = leb→le (length (front place)) 16 (subst (λ (k : ℕ). T (short k)) (zero-add place) (from_at short 0 74 place all_short h))

module _ (place : ℕ) (h : place < 74) {l : List ℕ} (sixteen : length l ≡ 16) {n : ℕ} {after : List ℕ} (p : Appends (front place) (0, l) (n, after)) where
  pub front-next : n ≡ length (front place)
  front-next = measured p (omega (arith, front-short place h))

  pub front-within : n ≤ 16
  front-within = omega (arith, front-next, front-short place h)

  pub front_put : take n after ≡ front place
  front_put =
      rw (written p (omega (arith, front-short place h)) (omega (arith, front-short place h)))
      (take_at (front place) (drop (length (front place)) l) n (sym front-next))

-- The first place whose label begins a line.

module _ (line : List ℕ) (place : ℕ) (h : place < 74) where
  one_place : 74 - place ≡ suc (74 - (place + 1))
  one_place = omega arith

  pub place_here : starts_with (front place) line ≡ true → place_from place (74 - place) line ≡ place
  unfolding place_from
  place_here e = rw (one_place, e)

  pub place-later : starts_with (front place) line ≡ false → place_from place (74 - place) line ≡ place_from (place + 1) (74 - (place + 1)) line
  unfolding place_from
  place-later e = rw (one_place, e, add-one place)

pub place_none : (line : List ℕ) (place : ℕ) → 74 ≤ place → place_from place (74 - place) line ≡ place
unfolding place_from
place_none line place h = let e : 74 - place ≡ 0 = omega arith in rw e

-- what a number behind a label counts
module _ (place : ℕ) (n : Number) where
  pub count-none : passed n.refusal ≡ false → count_from place n ≡ None
  count-none e = rw e refl

  pub count-some : passed n.refusal ≡ true → count_from place n ≡ Some (record { count = n.value; place = place })
  count-some e = rw e refl

-- what is read of a line
module _ (line : List ℕ) where
  pub count_unread : 74 ≤ place_of line → read_count line ≡ None
  unfolding read_count
  count_unread h = rw (le-ltb (place_of line) 74 h)

  -- by the place that was found, and the number that was read after its label
  pub found-read : {l : Labelled} {number : Number} → LabelOf line l
      → number ≡ whole_of (take (length line - l.next) (drop l.next line)) → count_from l.place number ≡ read_count line
  unfolding read_count
  found-read {l} {number} of n =
      let all : take (length line - l.next) (drop l.next line) ≡ drop l.next line =
      take_all (length line - l.next) (drop l.next line) (omega (arith, length-drop l.next line)) in
      rw (← of.0, lt-ltb l.place 74 of.1, ← of.2, n, all)

-- Sums.

module _ (totals : List ℕ) (place count : ℕ) where
  pub same-places : length (add_count totals place count).1 ≡ length totals
  unfolding add_count
  same-places =
      either (λ (r : Bool × List ℕ). length r.1 ≡ length totals) (ltb place (length totals) && ltb (get_or totals place 0 + count) (2 ^ 64)) (simp length-set) refl

module _ (totals : List ℕ) (place : ℕ) (counts : List ℕ) (i : ℕ) where
  pub each-done : length counts ≤ i → add_each totals place (drop i counts) ≡ (true, totals)
  unfolding add_each
  each-done h = rw (drop_of_length-le counts h)

  each_more : i < length counts
      → (let first = add_count totals place (get_or counts i 0) in
      let rest = add_each first.1 (place + 1) (drop (i + 1) counts) in
      add_each totals place (drop i counts) ≡ (first.0 && rest.0, rest.1))
  unfolding add_each
  each_more h = rw (drop-cons counts i 0 h, add-one i)

pub and_all : (a : Bool) → (a && true) ≡ a
and_all true = refl
and_all false = refl

and_then_and : (a b c : Bool) → (a && (b && c)) ≡ ((a && b) && c)
and_then_and true b c = refl
and_then_and false b c = refl

-- a turn of the loop over the counts
pub each_turn : (totals : List ℕ) (place : ℕ) (counts : List ℕ) (i : ℕ) (all : Bool) {first : Bool × List ℕ} (next : ℕ) → first ≡ add_count totals place (get_or counts i 0)
    → place + 1 ≡ next → i < length counts
    → (let rest = add_each first.1 next (drop (i + 1) counts) in
    ◌≡◌ {A = Bool × List ℕ} (all && (add_each totals place (drop i counts)).0, (add_each totals place (drop i counts)).1) ((all && first.0) && rest.0, rest.1))
each_turn totals place counts i all {first} next is e h =
    rw (each_more totals place counts i h, ← is, e, and_then_and all first.0 (add_each first.1 next (drop (i + 1) counts)).0)

-- three sums, one after the other
pub run_added : (totals counts refused : List ℕ) (none : ℕ) {a b c : Bool × List ℕ} → a ≡ add_each totals 0 counts → b ≡ add_each a.1 64 refused → c ≡ add_count b.1 73 none
    → ◌≡◌ {A = Bool × List ℕ} (a.0 && b.0 && c.0, c.1) (add_run totals counts refused none)
unfolding add_run
run_added totals counts refused none p q r = rw (r, q, p)
