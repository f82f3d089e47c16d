-- The steps in which two lists are put side by side. No promise rests on this: the code takes one step at a time.
use Rattle.std.specs.Prelude.{ℕ, ◌+◌, ◌≤◌, ◌<◌, cond, List, [], ◌∷◌, ◌++◌, ◌≡◌, ltb, length, drop}
use Rattle.buffer.specs.Appending.{Appends}
use Rattle.diff_reply.specs.Replies.{both_part, first_part, same_field, second_part, side_by_side, side_from}
use Rattle.diff_reply.specs.declared.Pair.{Pair}
use Rattle.diff_reply.specs.declared.Side.{Side}
use Rattle.diff_reply.specs.declared.Side.TheVariants.{First, Second, Both}
use Rattle.diff_reply.specs.declared.Turn.{Turn}
use Rattle.records.specs.Sets.{list_of, record_at, set_room}
use Rattle.records.specs.declared.Record.{Record}

-- which of the two has the next part, as `side_from` has it: of a record of each, and of what is left of each
unfoldable pub side_of : Record → Record → Side
side_of x y = cond (same_field x y) Both (cond (ltb x.start y.start) Second First)

unfoldable pub next_side : List Record → List Record → Side
next_side xs [] = First
next_side [] (y ∷ ys) = Second
next_side (x ∷ xs) (y ∷ ys) = side_of x y

-- its part, and where the two lists stand after it
unfoldable pub part_of : ℕ → ℕ → Side → ℕ → ℕ → Record → Record → List ℕ
part_of v w First i j x y = first_part i x
part_of v w Second i j x y = second_part j y
part_of v w Both i j x y = both_part v w i x y

abbrev pub of_first : Side → ℕ
of_first First = 1
of_first Second = 0
of_first Both = 1

abbrev pub of_second : Side → ℕ
of_second First = 0
of_second Second = 1
of_second Both = 1

-- what is left from two indices on
abbrev pub left_at : ℕ → ℕ → List Record → List Record → ℕ → ℕ → List ℕ
left_at v w xs ys i j = side_from v w i j (drop i xs) (drop j ys)

-- where a step starts: each list has its record there or is at its end, and not both are at their ends
pub record Left (xs ys : List Record) (i j : ℕ) : Type 0 where
  pub first : i ≤ length xs
  pub second : j ≤ length ys
  pub more : i + j < length xs + length ys
  pub few : (length xs ≤ set_room) × (length ys ≤ set_room)

-- a text is put, and what is left after it is what was left before, less this text
pub record Puts (v w : ℕ) (xs ys : List Record) (i j : ℕ) (from : ℕ × List ℕ) (k l : ℕ) (out : ℕ × List ℕ) : Type 0 where
  pub text : List ℕ
  pub puts : Appends text from out
  pub rest : text ++ left_at v w xs ys k l ≡ left_at v w xs ys i j

pub record Step (v w : ℕ) (xs ys : List Record) (i j : ℕ) (from : ℕ × List ℕ) (t : Turn) (after : List ℕ) : Type 0 where
  pub part : Puts v w xs ys i j from t.first t.second (t.next, after)
  pub further : i + j < t.first + t.second
  pub first : t.first ≤ length xs
  pub second : t.second ≤ length ys

-- the same of a pair, from where a turn stands
abbrev pub turn_side : Pair → Turn → Side
turn_side p t = next_side (drop t.first (list_of p.first.now)) (drop t.second (list_of p.second.now))

abbrev pub turn_part : Pair → Turn → Side → List ℕ
turn_part p t side =
    part_of p.v p.w side t.first t.second (record_at p.first.now t.first) (record_at p.second.now t.second)

abbrev pub TurnLeft : Pair → Turn → Type 0
TurnLeft p t = Left (list_of p.first.now) (list_of p.second.now) t.first t.second

abbrev pub TurnStep : Pair → Turn → List ℕ → Turn → List ℕ → Type 0
TurnStep p t before = Step p.v p.w (list_of p.first.now) (list_of p.second.now) t.first t.second (t.next, before)

abbrev pub pair_text : Pair → List ℕ
pair_text p = side_by_side p.v p.w (list_of p.first.now) (list_of p.second.now)
