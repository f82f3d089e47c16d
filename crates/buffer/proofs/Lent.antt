-- What a lent pool and lent starts give for a code: its start is in range, and of the project's own pool the part is the text.
use mathlib.Core.Path.{◌≡◌, refl, sym, ap, ◌∙◌}
use mathlib.Core.Bool.{Bool, true, false, cond}
use mathlib.Core.List.{List, [], ◌∷◌}
use Prim.Native.Nat.{ℕ, ◌+◌, ◌-◌, ◌≤◌, ◌<◌}
use native.Mathlib.Omega.{arith}
use borrow.Author.Tests.{le-leb, lt-leb, leb-false}
use lib.Dec.{leb}
use lib.ListN.{length, get_or, take, drop, length-take, length-drop}
use Rattle.texts.specs.Pool.{bytes_at, length_in, starts}
use Rattle.texts.proofs.Laws.{length_at, read_back, in_starts}
use Rattle.buffer.specs.Lent.{part_in, Lent}

-- a text's length by the starts as they are lent
pub lent_length : (starting : List ℕ) (code n : ℕ) → starting ≡ starts → n ≡ length_in starting code → n ≡ length (bytes_at code)
lent_length starting code n e h = h ∙ ap (λ (l : List ℕ). length_in l code) e ∙ length_at code

-- a code whose text is not empty has a start
pub in_lent : (starting : List ℕ) (code n : ℕ) → 0 < n → n ≡ length_in starting code → code < length starting
in_lent starting code n some e = in_starts starting code 0 (omega arith)

-- by either answer of the test
empty-by : (l : List ℕ) (b : Bool) → cond b (take 0 l) [] ≡ []
empty-by l true = refl
empty-by l false = refl

-- the part as the code takes it, of whatever is lent
module _ (lent starting : List ℕ) (code n : ℕ) (is : n ≡ length_in starting code) where
  pub part_none : n ≡ 0 → part_in lent starting code ≡ []
  unfolding part_in
  part_none z =
      let e : length_in starting code ≡ 0 = sym is ∙ z in
      rw e (empty-by (drop (get_or starting code 0) lent) (leb (get_or starting code 0 + 0) (length lent)))

  pub part_out : length lent < get_or starting code 0 + n → part_in lent starting code ≡ []
  unfolding part_in
  part_out h = rw (← is, lt-leb (get_or starting code 0 + n) (length lent) h)

  pub part-is : get_or starting code 0 + n ≤ length lent
      → take (get_or starting code 0 + n - get_or starting code 0) (drop (get_or starting code 0) lent) ≡ part_in lent starting code
  unfolding part_in
  part-is h =
      let e : get_or starting code 0 + n - get_or starting code 0 ≡ n = omega arith in
      rw (← is, le-leb (get_or starting code 0 + n) (length lent) h, e)

no_bytes : (l : List ℕ) → length l ≡ 0 → l ≡ []
no_bytes [] h = refl
no_bytes (x ∷ xs) h = absurd (omega arith)

-- of the project's own pool and starts the part is the text; where it would not lie in the pool, the text is empty
pub lent-text : {lent starting : List ℕ} (code : ℕ) → Lent lent starting → part_in lent starting code ≡ bytes_at code
unfolding part_in
lent-text {lent} {starting} code own = by-test (leb (from + n) (length lent)) refl
  where
    from : ℕ
    from = get_or starting code 0

    n : ℕ
    n = length_in starting code

    exactly : take n (drop from lent) ≡ bytes_at code
    exactly = rw (own.each, own.whole) (read_back code)

    by-test : (b : Bool) → leb (from + n) (length lent) ≡ b → cond b (take n (drop from lent)) [] ≡ bytes_at code
    by-test true e = exactly
    by-test false e =
        let h : length lent < from + n = leb-false (from + n) (length lent) e in
        let m : n ≡ length (bytes_at code) = lent_length starting code n own.each refl in
        let l = ap length exactly in
        let s = length-take n (drop from lent) in
        let d = length-drop from lent in
        sym (no_bytes (bytes_at code) (omega arith))
