-- Where an input is split into lines: at the first line feed, or nowhere. By induction over the bytes before it.
use Prim.Native.Nat.{ℕ}
use mathlib.Core.Bool.{Bool, true, false, cond, not}
use mathlib.Core.List.{List, [], ◌∷◌, ◌++◌}
use mathlib.Core.Path.{◌≡◌, refl, ap, ◌∙◌}
use lib.Dec.{T, eqb}
use Rattle.line_reader.specs.Lines.{line_feed, one_line, in_front, lines_of}
use Rattle.promise.proofs.Tests.{both_intro, both_left, both_right}

-- a byte that is no line feed stands in front of the first line
pub in_line : (b : ℕ) (rest : List ℕ) → T (not (eqb b line_feed)) → lines_of (b ∷ rest) ≡ in_front b (lines_of rest)
unfolding lines_of
in_line b rest t = by_feed (eqb b line_feed) t
  where
    by_feed : (f : Bool) → T (not f) → cond f ([] ∷ lines_of rest) (in_front b (lines_of rest)) ≡ in_front b (lines_of rest)
    by_feed true u = elim u [ ]
    by_feed false u = refl

module _ (b : ℕ) (line : List ℕ) (t : T (one_line (b ∷ line))) where
  first_byte : T (not (eqb b line_feed))
  unfolding one_line
  first_byte = both_left (not (eqb b line_feed)) (one_line line) t

  other-bytes : T (one_line line)
  unfolding one_line
  other-bytes = both_right (not (eqb b line_feed)) (one_line line) t

-- a line, its line feed and what follows
pub line_and_rest : (line rest : List ℕ) → T (one_line line) → lines_of (line ++ (line_feed ∷ rest)) ≡ line ∷ lines_of rest
unfolding lines_of
line_and_rest [] rest t = refl
line_and_rest (b ∷ line) rest t =
    in_line b (line ++ (line_feed ∷ rest)) (first_byte b line t) ∙ ap (in_front b) (line_and_rest line rest (other-bytes b line t))

-- "an unended last one counts"
pub line_alone : (b : ℕ) (line : List ℕ) → T (one_line (b ∷ line)) → lines_of (b ∷ line) ≡ (b ∷ line) ∷ []
unfolding lines_of
line_alone b [] t = in_line b [] (first_byte b [] t)
line_alone b (c ∷ line) t = in_line b (c ∷ line) (first_byte b (c ∷ line) t) ∙ ap (in_front b) (line_alone c line (other-bytes b (c ∷ line) t))

-- one byte more
pub longer-line : (line : List ℕ) (b : ℕ) → T (one_line line) → T (not (eqb b line_feed)) → T (one_line (line ++ (b ∷ [])))
unfolding one_line
longer-line [] b t n = both_intro (not (eqb b line_feed)) true n tt
longer-line (c ∷ line) b t n =
    both_intro (not (eqb c line_feed)) (one_line (line ++ (b ∷ []))) (first_byte c line t) (longer-line line b (other-bytes c line t) n)
