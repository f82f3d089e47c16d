-- Laws of big-endian numbers and of the judgement, which the functions' proofs cite: each says what a definition gives
-- under the tests that the code made.
use Prim.Native.Nat.{ℕ, ◌+◌, ◌*◌, ◌^◌, ◌≤◌, ◌<◌}
use mathlib.Core.Bool.{Bool, true, false, cond, not}
use mathlib.Core.List.{List, []}
use mathlib.Core.Path.{◌≡◌, refl, sym, ap, ◌∙◌}
use native.Mathlib.Nat.{pow-suc, pow-le-pow_right}
use native.Mathlib.Numerals.{add-one}
use native.Mathlib.Omega.{arith}
use lib.Arith.{digits_lt}
use lib.Dec.{ltb, eqb}
use lib.ListN.{length, get_or, take, drop}
use lib.Seq.{drop-cons, drop-length, length-take-le}
use borrow.Author.Tests.{lt-ltb, le-ltb, eq-eqb, ne_eqb, ltb-false, eqb-true, eqb-false}
use Rattle.std.specs.Prelude.{Result, Ok, Err}
use Rattle.std.specs.Result.{is_err}
use Rattle.entry.specs.BigEndian.{bytes_after, big_endian, bytes_at}
use Rattle.entry.specs.Entries.{length_in, version_in, numbers_in, judged, sound, entry_of, body_of}
use Rattle.refusals.proofs.Cases.{check-ok, check-err, check-same, passed-is, refused-is}
use Rattle.refusals.specs.Refusals.{bare, checked, reason_number}
use Rattle.refusals.specs.declared.Reason.TheVariants.{None, ShortEntry, BadLength, BadVersion}
use Rattle.refusals.specs.declared.Refusal.{Refusal}

-- Big-endian numbers.

-- one byte more is one digit more in base 256
pub grows : (i n b : ℕ) → n < 256 ^ i → b < 256 → n * 256 + b < 256 ^ (i + 1)
grows i n b h g = rw (add-one, pow-suc) (digits_lt h g)

-- eight digits fit 64 bits
pub room : (i n b : ℕ) → i < 8 → n < 256 ^ i → b < 256 → n * 256 + b < 2 ^ 64
room i n b hi h g =
    let m : 256 ^ (i + 1) ≤ 256 ^ 8 = pow-le-pow_right {n = 256} (omega arith) {i = i + 1} {j = 8} (omega arith) in
    omega (arith, grows i n b h g)

-- one turn of the loop, and its end
pub bytes_after-more : (n : ℕ) (s : List ℕ) (i : ℕ) → i < length s → bytes_after n (drop i s) ≡ bytes_after (n * 256 + get_or s i 0) (drop (i + 1) s)
unfolding bytes_after
bytes_after-more n s i h = rw (add-one, drop-cons s i 0)

pub bytes_after-done : (n : ℕ) (s : List ℕ) (i : ℕ) → i ≡ length s → bytes_after n (drop i s) ≡ n
unfolding bytes_after
bytes_after-done n s i h = rw (h, drop-length)

-- a number of k bytes is below 256 ^ k
pub part-below : (k : ℕ) (l : List ℕ) (r : ℕ) → k ≤ length l → r < 256 ^ length (take k l) → r < 256 ^ k
part-below k l r h g = rw (length-take-le k l h) at g

-- a byte is its own number
pub one_byte : (s : List ℕ) (i : ℕ) → i < length s → big_endian (bytes_at i 1 s) ≡ get_or s i 0
unfolding bytes_after
one_byte s i h = rw (drop-cons s i 0) (omega arith)

-- The judgement, by the tests that lead to each refusal.

pub judged-none : (s : List ℕ) → length s < 2 → judged s ≡ ShortEntry
unfolding judged
judged-none s h = simp (lt-ltb _ _ h)

module _ (s : List ℕ) (n : ℕ) (e : n ≡ length_in s) (two : 2 ≤ length s) where
  pub judged-zero : n ≡ 0 → judged s ≡ BadLength
  unfolding judged
  judged-zero z = rw (← e) (simp (le-ltb _ _ two, eq-eqb _ _ z))

  module _ (some : n ≡ 0 → ⊥) where
    pub judged-short : length s < 2 + n → judged s ≡ ShortEntry
    unfolding judged
    judged-short h = rw (← e) (simp (le-ltb _ _ two, ne_eqb _ _ some, lt-ltb _ _ h))

    module _ (whole : 2 + n ≤ length s) where
      pub judged_version : (get_or s 2 0 ≡ 1 → ⊥) → judged s ≡ BadVersion
      unfolding judged
      judged_version v =
          rw (← e, one_byte s 2 (omega arith)) (simp (le-ltb _ _ two, ne_eqb _ _ some, le-ltb _ _ whole, ne_eqb _ _ v))

      module _ (v : get_or s 2 0 ≡ 1) where
        pub judged-long : (n ≡ 11 → ⊥) → judged s ≡ BadLength
        unfolding judged
        judged-long l =
            rw (← e, one_byte s 2 (omega arith)) (simp (le-ltb _ _ two, ne_eqb _ _ some, le-ltb _ _ whole, eq-eqb _ _ v, ne_eqb _ _ l))

        pub judged-sound : n ≡ 11 → judged s ≡ None
        unfolding judged
        judged-sound l =
            rw (← e, one_byte s 2 (omega arith)) (simp (le-ltb _ _ two, ne_eqb _ _ some, le-ltb _ _ whole, eq-eqb _ _ v, eq-eqb _ _ l))

-- What a sound entry is: nothing refuses it.

pub record Facts (s : List ℕ) : Type 0 where
  pub long : 13 ≤ length s
  pub eleven : length_in s ≡ 11
  pub first : version_in s ≡ 1

passed : (a b c d e : Bool)
    → reason_number (cond a ShortEntry (cond b BadLength (cond c ShortEntry (cond (not d) BadVersion (cond (not e) BadLength None))))) ≡ 0
    → (c ≡ false) × (d ≡ true) × (e ≡ true)
passed true b c d e h = absurd (omega arith)
passed false true c d e h = absurd (omega arith)
passed false false true d e h = absurd (omega arith)
passed false false false false e h = absurd (omega arith)
passed false false false true false h = absurd (omega arith)
passed false false false true true h = (refl, refl, refl)

pub facts : (s : List ℕ) → reason_number (judged s) ≡ 0 → Facts s
unfolding judged
facts s h =
    let n : ℕ = length_in s in
    let w = passed (ltb (length s) 2) (eqb n 0) (ltb (length s) (2 + n)) (eqb (version_in s) 1) (eqb n 11) h in
    let l : n ≡ 11 = eqb-true n 11 w.2 in
    record {
      long = omega (arith, ltb-false (length s) (2 + n) w.0);
      eleven = l;
      first = eqb-true (version_in s) 1 w.1;
    }

pub from-facts : (s : List ℕ) → Facts s → judged s ≡ None
from-facts s f =
    let two : 2 < length s = omega (arith, f.long) in
    judged-sound s (length_in s) refl (omega arith) (omega (arith, f.eleven)) (omega (arith, f.eleven, f.long))
    (sym (one_byte s 2 two) ∙ f.first) f.eleven

module _ (s : List ℕ) (free : reason_number (judged s) ≡ 0) where
  pub entry-sound : entry_of s ≡ Ok (numbers_in s)
  unfolding entry_of
  entry-sound = simp (eq-eqb _ _ free)

  pub body-sound : body_of s ≡ bytes_at 2 11 s
  unfolding body_of
  body-sound = simp (eq-eqb _ _ free)

module _ (s : List ℕ) (bad : reason_number (judged s) ≡ 0 → ⊥) where
  pub entry-refused : entry_of s ≡ Err (bare (judged s))
  unfolding entry_of
  entry-refused = simp (ne_eqb _ _ bad)

  pub body_refused : body_of s ≡ []
  unfolding body_of
  body_refused = simp (ne_eqb _ _ bad)

err_by : (f : Refusal) (p : Bool) → is_err {T = Unit} (cond p (Ok tt) (Err f)) ≡ not p
err_by f true = refl
err_by f false = refl

-- what the judgement is made into tells whether there is a refusal, and which
module _ (s : List ℕ) {r : Result Unit Refusal} (is : r ≡ checked (bare (judged s))) where
  pub checked-sound : {u : Unit} → r ≡ Ok u → reason_number (judged s) ≡ 0
  checked-sound e = eqb-true _ 0 (check-ok (bare (judged s)) is e)

  pub checked_refused : {f : Refusal} → r ≡ Err f → entry_of s ≡ Err f
  checked_refused e =
      entry-refused s (eqb-false _ 0 (check-err (bare (judged s)) is e))
      ∙ ap Err (sym (check-same (bare (judged s)) is e))

  module _ {b : Bool} (tested : b ≡ is_err r) where
    tested_is : b ≡ not (sound s)
    tested_is = tested ∙ ap is_err is ∙ err_by (bare (judged s)) (sound s)

    pub judged_free : b ≡ false → reason_number (judged s) ≡ 0
    judged_free e = eqb-true _ 0 (passed-is (bare (judged s)) tested_is e)

    pub judged_bad : b ≡ true → reason_number (judged s) ≡ 0 → ⊥
    judged_bad e = eqb-false _ 0 (refused-is (bare (judged s)) tested_is e)
