-- What the promises come to: reading and writing undo each other, so that the bytes of a sound entry are those of its
-- numbers, and what follows them changes nothing. A number's bytes are its digits in base 256, one law for any count; a
-- block is cut into the parts that it has.
use Prim.Native.Nat.{ℕ, zero, suc, ◌+◌, ◌*◌, ◌/◌, ◌%◌, ◌^◌, ◌≤◌, ◌<◌}
use mathlib.Core.Bool.{Bool, true, false, true≢false}
use mathlib.Core.List.{List, [], ◌∷◌, ◌++◌}
use mathlib.Core.Path.{◌≡◌, refl, sym, ap, ap₂, ◌∙◌}
use native.Mathlib.Nat.{add-mul, mul_assoc, div-one, div-div-eq-div-mul, mod-one, mod-eq_of_lt, one-le-pow, pow-suc, pow-succ'}
use native.Mathlib.Omega.{arith}
use lib.Arith.{digits_div, digits_mod, mod-mul}
use lib.Dec.{T, ltb, ltb→lt}
use lib.ListN.{length, take, drop, length-drop}
use lib.Pow.{are_bytes}
use lib.Seq.{drop-drop, length-take-le, take-add}
use borrow.Author.Tests.{eqb-true, eqb-false, ne_eqb}
use Rattle.std.specs.Prelude.{Result, Ok, Err}
use Rattle.std.specs.Result.{is_ok}
use Rattle.entry.proofs.Laws.{Facts, facts, from-facts, entry-sound, entry-refused, body-sound, body_refused}
use Rattle.entry.specs.BigEndian.{bytes_after, big_endian, bytes_at, written}
use Rattle.entry.specs.Entries.{numbers_in, judged, sound, entry_of, body_of, body_bytes, entry_bytes}
use Rattle.entry.specs.declared.Entry.{Entry}
use Rattle.promise.proofs.Tests.{both_left, both_right, both_intro}
use Rattle.refusals.specs.Refusals.{bare, no_refusal, passed, reason_number}
use Rattle.refusals.specs.declared.Refusal.{Refusal}

-- Numbers and their bytes.

bytes_after-div : (n : ℕ) (s : List ℕ) → T (are_bytes s) → bytes_after n s / 256 ^ length s ≡ n
unfolding bytes_after
bytes_after-div n [] t = div-one n
bytes_after-div n (b ∷ s) t =
    ap (λ (m : ℕ). bytes_after (n * 256 + b) s / m) (pow-suc 256 (length s))
    ∙ sym (div-div-eq-div-mul (bytes_after (n * 256 + b) s) (256 ^ length s) 256)
    ∙ ap (λ (m : ℕ). m / 256) (bytes_after-div (n * 256 + b) s (both_right (ltb b 256) (are_bytes s) t))
    ∙ digits_div n (ltb→lt b 256 (both_left (ltb b 256) (are_bytes s) t))

-- bytes are written again from their number, whatever stood before them
written_after : (n : ℕ) (s : List ℕ) → T (are_bytes s) → written (length s) (bytes_after n s) ≡ s
unfolding bytes_after written
written_after n [] t = refl
written_after n (b ∷ s) t =
    let more : T (are_bytes s) = both_right (ltb b 256) (are_bytes s) t in
    ap₂ (◌∷◌)
    (ap (λ (m : ℕ). m % 256) (bytes_after-div (n * 256 + b) s more)
    ∙ digits_mod n (ltb→lt b 256 (both_left (ltb b 256) (are_bytes s) t)))
    (written_after (n * 256 + b) s more)

-- and a number is read again from its bytes
bytes_after-written : (n k v : ℕ) → bytes_after n (written k v) ≡ n * 256 ^ k + v % 256 ^ k
unfolding bytes_after written
bytes_after-written n zero v = omega (arith, mod-one v)
bytes_after-written n (suc k) v =
    let p : ℕ = 256 ^ k in
    let d : ℕ = v / p % 256 in
    bytes_after-written (n * 256 + d) k v
    ∙ rw (
      add-mul (n * 256) d p,
      mul_assoc n 256 p,
      pow-succ' 256 k,
      mod-mul v {m = 256} {c = p} (omega arith) (omega (arith, one-le-pow k 256 (omega arith))),
    )
    (omega arith)

pub read-written : (k v : ℕ) → v < 256 ^ k → big_endian (written k v) ≡ v
read-written k v h = bytes_after-written 0 k v ∙ omega (arith, mod-eq_of_lt h)

-- Parts of a block.

take-bytes : (n : ℕ) (s : List ℕ) → T (are_bytes s) → T (are_bytes (take n s))
take-bytes zero s t = tt
take-bytes (suc n) [] t = tt
take-bytes (suc n) (b ∷ s) t =
    both_intro (ltb b 256) (are_bytes (take n s)) (both_left (ltb b 256) (are_bytes s) t)
    (take-bytes n s (both_right (ltb b 256) (are_bytes s) t))

drop-bytes : (n : ℕ) (s : List ℕ) → T (are_bytes s) → T (are_bytes (drop n s))
drop-bytes zero s t = t
drop-bytes (suc n) [] t = tt
drop-bytes (suc n) (b ∷ s) t = drop-bytes n s (both_right (ltb b 256) (are_bytes s) t)

-- bytes that a block has are written again from their number
part-written : (offset count : ℕ) (s : List ℕ) → T (are_bytes s) → offset + count ≤ length s
    → written count (big_endian (bytes_at offset count s)) ≡ bytes_at offset count s
part-written offset count s t h =
    let p : List ℕ = bytes_at offset count s in
    let l : length p ≡ count = length-take-le count (drop offset s) (omega (arith, length-drop offset s)) in
    ap (λ (n : ℕ). written n (big_endian p)) (sym l) ∙ written_after 0 p (take-bytes count (drop offset s) (drop-bytes offset s t))

-- two parts, one after the other, are one
parts : (offset m n : ℕ) (s : List ℕ) → bytes_at offset (m + n) s ≡ bytes_at offset m s ++ bytes_at (offset + m) n s
parts offset m n s = take-add m n (drop offset s) ∙ ap (λ (l : List ℕ). take m (drop offset s) ++ take n l) (drop-drop m offset s)

-- Entries.

-- what is read tells the judgement: the block's numbers where nothing is refused, and else the refusal
module _ (s : List ℕ) where
  refusal_in : Result Entry Refusal → Refusal
  refusal_in (Ok e) = no_refusal
  refusal_in (Err f) = f

  numbers_of : Result Entry Refusal → Entry
  numbers_of (Ok e) = e
  numbers_of (Err f) = numbers_in s

  by-sound : {P : Type 0} → (reason_number (judged s) ≡ 0 → P) → ((reason_number (judged s) ≡ 0 → ⊥) → P) → P
  by-sound {P} go stop = by (sound s) refl
    where
      by : (t : Bool) → sound s ≡ t → P
      by true e = go (eqb-true (reason_number (judged s)) 0 e)
      by false e = stop (eqb-false (reason_number (judged s)) 0 e)

  module _ {e : Entry} (read : entry_of s ≡ Ok e) where
    pub read-free : reason_number (judged s) ≡ 0
    read-free =
        by-sound (λ free. free) (λ bad. absurd (true≢false (sym (ap is_ok (sym (entry-refused s bad) ∙ read)))))

    pub numbers_are : e ≡ numbers_in s
    unfolding numbers_of
    numbers_are = ap numbers_of (sym read ∙ entry-sound s read-free)

  module _ {f : Refusal} (refused : entry_of s ≡ Err f) where
    pub read-bad : reason_number (judged s) ≡ 0 → ⊥
    read-bad free = true≢false (ap is_ok (sym (entry-sound s free) ∙ refused))

    -- an entry's refusal is the judgement
    pub refusal_is : f ≡ bare (judged s)
    unfolding refusal_in
    refusal_is = ap refusal_in (sym refused ∙ entry-refused s read-bad)

    -- on a refusal, which is one that refuses, there are no numbers, and the body is empty
    pub refused-nothing : (passed f ≡ false) × (body_of s ≡ [])
    refused-nothing = (ap passed refusal_is ∙ ne_eqb _ 0 read-bad, body_refused s read-bad)

-- the body's bytes are those of the numbers: version, sequence and ESR, written big-endian again
pub body_of-numbers : (s : List ℕ) {e : Entry} → T (are_bytes s) → entry_of s ≡ Ok e
    → body_of s ≡ body_bytes e.sequence e.esr
body_of-numbers s t e =
    let f : Facts s = facts s (read-free s e) in
    body-sound s (read-free s e)
    ∙ parts 2 1 10 s
    ∙ ap₂ (◌++◌)
    (sym (part-written 2 1 s t (omega (arith, f.long))) ∙ ap (written 1) f.first)
    (parts 3 2 8 s
    ∙ ap₂ (◌++◌)
    (sym (part-written 3 2 s t (omega (arith, f.long))))
    (sym (part-written 5 8 s t (omega (arith, f.long)))))
    ∙ ap (λ (x : Entry). body_bytes x.sequence x.esr) (sym (numbers_are s e))

-- an accepted block's first 13 bytes are its entry, written again from its numbers
pub entry_of-numbers : (s : List ℕ) {e : Entry} → T (are_bytes s) → entry_of s ≡ Ok e
    → take 13 s ≡ entry_bytes e.sequence e.esr
entry_of-numbers s t e =
    let f : Facts s = facts s (read-free s e) in
    parts 0 2 11 s
    ∙ ap₂ (◌++◌)
    (sym (part-written 0 2 s t (omega (arith, f.long))) ∙ ap (written 2) f.eleven)
    (sym (body-sound s (read-free s e)) ∙ body_of-numbers s t e)

-- every sequence and every ESR has an entry, and it is read whatever follows: a reader that refuses all would not do
pub written-is-read : (sequence esr : ℕ) (rest : List ℕ) → sequence < 256 ^ 2 → esr < 256 ^ 8
    → entry_of (entry_bytes sequence esr ++ rest) ≡ Ok (record { esr = esr; sequence = sequence })
unfolding bytes_after written
written-is-read sequence esr rest hs he =
    let s : List ℕ = entry_bytes sequence esr ++ rest in
    let f : Facts s = record { long = omega arith; eleven = refl; first = refl } in
    entry-sound s (ap reason_number (from-facts s f))
    ∙ ap₂ (λ (q v : ℕ). Ok (record { esr = v; sequence = q })) (read-written 2 sequence hs) (read-written 8 esr he)
