-- Two lists side by side, a step at a time; and the records of a set, by index.
use Prim.Native.Nat.{ℕ, suc, ◌+◌, ◌≤◌, ◌<◌}
use mathlib.Core.Bool.{Bool, true, false, cond}
use mathlib.Core.List.{List, [], ◌∷◌, ◌++◌, append-nil, append_assoc}
use mathlib.Core.Path.{◌≡◌, refl, sym, ap, subst, ◌∙◌}
use native.Mathlib.Nat.{add-zero}
use native.Mathlib.Numerals.{add-one}
use native.Mathlib.Omega.{arith}
use lib.Dec.{ltb}
use lib.ListN.{length, get_or, drop, drop_of_length-le, length-take, get_or-eq_default}
use lib.Seq.{drop-cons, get_or-take}
use borrow.Author.Tests.{ltb-true, ltb-false}
use Rattle.buffer.specs.Appending.{Appends}
use Rattle.buffer.proofs.Appending.{and_then}
use Rattle.records.specs.Sets.{list_of, no_record, record_at, set_room}
use Rattle.records.specs.declared.Record.{Record}
use Rattle.records.specs.declared.Records.{Records}
use Rattle.diff_reply.specs.Replies.{same_field, side_by_side, side_from}
use Rattle.diff_reply.specs.Steps.{Left, Puts, Step, left_at, next_side, of_first, of_second, part_of, side_of}
use Rattle.diff_reply.specs.declared.Side.{Side}
use Rattle.diff_reply.specs.declared.Side.TheVariants.{First, Second, Both}

pub record_here : (s : Records) (i : ℕ) → length (list_of s) ≤ set_room → record_at s i ≡ get_or (list_of s) i no_record
unfolding record_at
record_here s i few = by (ltb i s.count) refl (ltb i set_room) refl
  where
    none_here : length (list_of s) ≤ i → no_record ≡ get_or (list_of s) i no_record
    none_here h = sym (get_or-eq_default (list_of s) no_record h)

    by : (b : Bool) → ltb i s.count ≡ b → (d : Bool) → ltb i set_room ≡ d
        → cond (ltb i s.count) (cond (ltb i set_room) (get_or s.items i no_record) no_record) no_record ≡ get_or (list_of s) i no_record
    by true e true f = rw (e, f) (sym (get_or-take s.count s.items i no_record (ltb-true i s.count e)))
    by true e false f = rw (e, f) (none_here (omega (arith, few, ltb-false i set_room f)))
    by false e d f = rw e (none_here (omega (arith, length-take s.count s.items, ltb-false i s.count e)))

-- A step: the part of the side that is next, by what the two lists have there, as `side_from` goes.

module _ (v w : ℕ) (xs ys : List Record) (i j : ℕ) (from : ℕ × List ℕ) (next : ℕ) (after : List ℕ) where
  stepped : {text : List ℕ} {k l : ℕ} → text ++ left_at v w xs ys k l ≡ left_at v w xs ys i j → i + j < k + l → k ≤ length xs → l ≤ length ys
      → Appends text from (next, after) → Step v w xs ys i j from (record { next = next; first = k; second = l }) after
  stepped {text} e f g h p = record { part = record { text = text; puts = p; rest = e }; further = f; first = g; second = h }

  abbrev By : Side → Type 0
  By side = Appends (part_of v w side i j (get_or xs i no_record) (get_or ys j no_record)) from (next, after) → Step v w xs ys i j from (record { next = next; first = i + of_first side; second = j + of_second side }) after

  by_both : i < length xs → j < length ys → By (side_of (get_or xs i no_record) (get_or ys j no_record))
  unfolding side_of side_from part_of
  by_both h k = by (same_field x y) refl (ltb x.start y.start) refl
    where
      x : Record
      x = get_or xs i no_record

      y : Record
      y = get_or ys j no_record

      here : drop i xs ≡ x ∷ drop (suc i) xs
      here = drop-cons xs i no_record h

      there : drop j ys ≡ y ∷ drop (suc j) ys
      there = drop-cons ys j no_record k

      by : (b : Bool) → same_field x y ≡ b → (d : Bool) → ltb x.start y.start ≡ d → By (cond (same_field x y) Both (cond (ltb x.start y.start) Second First))
      by true e d f = rw e (stepped (rw (here, there, e, add-one i, add-one j)) (omega arith) (omega arith) (omega arith))
      by false e true f = rw (e, f, add-zero i) (stepped (rw (here, there, e, f, add-one j)) (omega arith) (omega arith) (omega arith))
      by false e false f = rw (e, f, add-zero j) (stepped (rw (here, there, e, f, add-one i)) (omega arith) (omega arith) (omega arith))

  by_next : Left xs ys i j → By (next_side (drop i xs) (drop j ys))
  unfolding next_side side_from part_of
  by_next left = by (ltb i (length xs)) refl (ltb j (length ys)) refl
    where
      by : (b : Bool) → ltb i (length xs) ≡ b → (d : Bool) → ltb j (length ys) ≡ d → By (next_side (drop i xs) (drop j ys))
      by true h true k =
          let p = ltb-true i (length xs) h in
          let q = ltb-true j (length ys) k in
          rw (drop-cons xs i no_record p, drop-cons ys j no_record q) (by_both p q)
      by true h false k =
          let p = ltb-true i (length xs) h in
          let none = drop_of_length-le ys (ltb-false j (length ys) k) in
          rw (none, add-zero j) (stepped (rw (drop-cons xs i no_record p, none, add-one i)) (omega arith) (omega arith) left.second)
      by false h true k =
          let none = drop_of_length-le xs (ltb-false i (length xs) h) in
          let q = ltb-true j (length ys) k in
          let there = drop-cons ys j no_record q in
          rw (none, there, add-zero i) (stepped (rw (none, there, add-one j)) (omega arith) left.first (omega arith))
      by false h false k = absurd (omega (arith, ltb-false i (length xs) h, ltb-false j (length ys) k))

pub step : {v w : ℕ} {xs ys : List Record} {i j : ℕ} {from : ℕ × List ℕ} {next : ℕ} {after : List ℕ} {side : Side} {x y : Record} {k l : ℕ}
    → Left xs ys i j → side ≡ next_side (drop i xs) (drop j ys) → x ≡ get_or xs i no_record → y ≡ get_or ys j no_record
    → Appends (part_of v w side i j x y) from (next, after) → k ≡ of_first side → l ≡ of_second side
    → Step v w xs ys i j from (record { next = next; first = i + k; second = j + l }) after
step {v} {w} {xs} {ys} {i} {j} {from} {next} {after} left side x y p e f = rw (e, f, side) (by_next v w xs ys i j from next after left (rw (side, x, y) at p))

-- Steps, one after the other.

module _ {v w : ℕ} {xs ys : List Record} where
  pub and_on : {i j k l m n : ℕ} {s t u : ℕ × List ℕ} → Puts v w xs ys i j s k l t → Puts v w xs ys k l t m n u → Puts v w xs ys i j s m n u
  and_on {i} {j} {k} {l} {m} {n} p q =
      record {
        text = p.text ++ q.text;
        puts = and_then p.puts q.puts;
        rest = append_assoc p.text q.text (left_at v w xs ys m n) ∙ ap (λ (z : List ℕ). p.text ++ z) q.rest ∙ p.rest;
      }

  pub all_put : {i j : ℕ} {s u : ℕ × List ℕ} → Puts v w xs ys 0 0 s i j u → length xs ≤ i → length ys ≤ j → Appends (side_by_side v w xs ys) s u
  unfolding side_by_side side_from
  all_put {i} {j} {s} {u} p h k = subst (λ (z : List ℕ). Appends z s u) (sym (append-nil p.text) ∙ whole) p.puts
    where
      whole : p.text ++ [] ≡ side_from v w 0 0 xs ys
      whole = rw (drop_of_length-le xs h, drop_of_length-le ys k) at p.rest
