-- What a survey says is read back: each label tells its place, by computing, so that no other begins its line, and the number after it is the count.
use Prim.Native.Char.{code}
use Prim.Native.Nat.{ℕ, zero, suc, ◌+◌, ◌*◌, ◌^◌, ◌≤◌, ◌<◌}
use mathlib.Core.Bool.{Bool, true, false, false≢true, cond, ◌&&◌}
use mathlib.Core.List.{List, [], ◌∷◌, ◌++◌}
use mathlib.Core.Path.{◌≡◌, refl, ap, subst}
use native.Mathlib.Nat.{zero-add}
use native.Mathlib.Omega.{arith}
use lib.Dec.{T, eqb, eqb→eq, ltb}
use lib.ListN.{length, drop, get_or}
use lib.Seq.{drop_at}
use borrow.Author.Tests.{eq-eqb, eqb-true, lt-ltb, ltb-false, ltb-true}
use Rattle.digits.specs.Digits.{digit_char, digits_of, enough, numeral, unpadded}
use Rattle.number.specs.Digits.{digit_of}
use Rattle.number.specs.Numbers.{starts_with}
use Rattle.promise.proofs.Tests.{from, from_at}
use Rattle.refusals.proofs.Laws.{place_or_9}
use Rattle.refusals.specs.Values.{value_numbers, value_place}
use Rattle.std.specs.Prelude.{Some}
use Rattle.survey_reply.proofs.Numerals.{numeral-whole}
use Rattle.survey_reply.specs.Counts.{place_from, place_of, read_count}
use Rattle.survey_reply.specs.Replies.{count_text, front, label, no_number}
use Rattle.texts.specs.Pool.{bytes}

begins_itself : (a w : List ℕ) → starts_with a (a ++ w) ≡ true
unfolding starts_with
begins_itself [] w = refl
begins_itself (x ∷ a) w = rw (eq-eqb x x refl) (begins_itself a w)

-- a line is what begins it, and the rest
begun : (a line : List ℕ) → starts_with a line ≡ true → a ++ drop (length a) line ≡ line
unfolding starts_with
begun [] line e = refl
begun (x ∷ a) [] e = absurd (false≢true e)
begun (x ∷ a) (y ∷ line) e = by_first (eqb y x) refl e (begun a line)
  where
    by_first : (f : Bool) → eqb y x ≡ f → (f && starts_with a line) ≡ true → (starts_with a line ≡ true → a ++ drop (length a) line ≡ line)
        → (x ∷ a) ++ drop (length (x ∷ a)) (y ∷ line) ≡ y ∷ line
    by_first true is u rest = rw (eqb-true y x is, rest u)
    by_first false is u rest = absurd (false≢true u)

-- the number that stands at an offset of a line, of one digit or two, and the place that the first bytes of a line tell
abbrev told_at : ℕ → List ℕ → ℕ
told_at i line = cond (eqb (get_or line (i + 1) 0) (code " ")) (digit_of (get_or line i 0)) (digit_of (get_or line i 0) * 10 + digit_of (get_or line (i + 1) 0))

abbrev told_by : List ℕ → ℕ
told_by line =
    cond (eqb (get_or line 0 0) (code "0")) (digit_of (get_or line 2 0) * 16 + digit_of (get_or line 3 0))
    (cond (eqb (get_or line 0 0) (code "r")) (64 + place_or_9 (told_at 8 line))
    no_number)

abbrev tells : List ℕ → ℕ → Bool
tells w place = eqb (told_by (front place ++ w)) place

all_tell : (w : List ℕ) → T (from (tells w) 0 74)
unfolding front label bytes digits_of digit_char unpadded enough digit_of value_numbers value_place
all_tell w = tt

label-tells : (place : ℕ) (w : List ℕ) → place < 74 → told_by (front place ++ w) ≡ place
label-tells place w h = eqb→eq (told_by (front place ++ w)) place (subst (λ (k : ℕ). T (tells w k)) (zero-add place) (from_at (tells w) 0 74 place (all_tell w) h))

-- so no label begins a line of another place
no_other : (k place : ℕ) (w : List ℕ) → k < place → place < 74 → starts_with (front k) (front place ++ w) ≡ false
no_other k place w h l = by-test (starts_with (front k) (front place ++ w)) refl
  where
    by-test : (b : Bool) → starts_with (front k) (front place ++ w) ≡ b → b ≡ false
    by-test true e =
        let line : List ℕ = front place ++ w in
        absurd (omega (arith, label-tells k (drop (length (front k)) line) (omega arith), ap told_by (begun (front k) line e), label-tells place w l))
    by-test false e = refl

-- the first place whose label begins a line
first-place : (line : List ℕ) (place : ℕ) → starts_with (front place) line ≡ true → ((k : ℕ) → k < place → starts_with (front k) line ≡ false)
    → (k n : ℕ) → k ≤ place → place < k + n → place_from k n line ≡ place
unfolding place_from
first-place line place e none k zero h l = absurd (omega arith)
first-place line place e none k (suc n) h l = by_order (ltb k place) refl (λ m. first-place line place e none (suc k) n m (omega arith))
  where
    by_order : (b : Bool) → ltb k place ≡ b → (suc k ≤ place → place_from (suc k) n line ≡ place)
        → cond (starts_with (front k) line) k (place_from (suc k) n line) ≡ place
    by_order true o more = let m = ltb-true k place o in rw (none k m) (more m)
    by_order false o more =
        let m = ltb-false k place o in
        let is : k ≡ place = omega arith in
        rw (is, e)

module _ (place : ℕ) (h : place < 74) (w : List ℕ) where
  place_found : place_of (front place ++ w) ≡ place
  place_found =
      first-place (front place ++ w) place (begins_itself (front place) w) (λ k m. no_other k place w m h) 0 74 (omega arith)
      (omega arith)

-- a line that a survey writes of a place is read back as that place and count
pub read_back : (place count : ℕ) → place < 74 → count < 2 ^ 64 → read_count (count_text place count) ≡ Some (record { count = count; place = place })
unfolding read_count count_text
read_back place count h small =
    rw (place_found place h (numeral 10 count), lt-ltb place 74 h, drop_at (front place) (numeral 10 count) (length (front place)) refl, numeral-whole count small)
