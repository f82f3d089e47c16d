-- Texts put one after the other are one text: within the buffer the second follows the first, and past its end nothing more is written.
use mathlib.Core.Path.{◌≡◌, refl, sym, ap, ap₂, ◌∙◌}
use mathlib.Core.Bool.{Bool, true, false}
use mathlib.Core.List.{List, [], ◌++◌}
use Prim.Native.Nat.{ℕ, ◌+◌, ◌-◌, ◌^◌, ◌≤◌, ◌<◌}
use native.Mathlib.Nat.{add-zero, zero-add}
use native.Mathlib.Omega.{arith}
use borrow.Author.Tests.{lt-ltb, le-ltb, ltb-true, ltb-false, leb-true, leb-false}
use lib.Dec.{ltb, leb}
use lib.ListN.{length, take, drop, length-append}
use lib.Seq.{sets, take_all, take-append-le, take-append-add, take-nil, length-sets, sets-eq}
use Rattle.buffer.specs.Appending.{offset, room, appended, Appends}
use Rattle.buffer.proofs.Writing.{sets-append}

-- Offsets.

pub offset-is : (n : ℕ) → n < 2 ^ 64 → offset n ≡ n
unfolding offset
offset-is n h = rw (lt-ltb n (2 ^ 64) h)

pub offset-last : (n : ℕ) → 2 ^ 64 ≤ n → offset n ≡ 2 ^ 64 - 1
unfolding offset
offset-last n h = rw (le-ltb n (2 ^ 64) h)

-- an offset is the number, or the last one below it
offset-either : (n : ℕ) → (offset n ≤ n) × (offset n < 2 ^ 64)
offset-either n = by-test (ltb n (2 ^ 64)) refl
  where
    by-test : (b : Bool) → ltb n (2 ^ 64) ≡ b → (offset n ≤ n) × (offset n < 2 ^ 64)
    by-test true e = let h = ltb-true n (2 ^ 64) e in (omega (arith, offset-is n h), omega (arith, h, offset-is n h))
    by-test false e = let h = ltb-false n (2 ^ 64) e in (omega (arith, h, offset-last n h), omega (arith, offset-last n h))

-- no smaller number is passed
offset-over : (n m : ℕ) → n < 2 ^ 64 → n ≤ m → n ≤ offset m
offset-over n m small h = by-test (ltb m (2 ^ 64)) refl
  where
    by-test : (b : Bool) → ltb m (2 ^ 64) ≡ b → n ≤ offset m
    by-test true e = omega (arith, h, offset-is m (ltb-true m (2 ^ 64) e))
    by-test false e = omega (arith, small, offset-last m (ltb-false m (2 ^ 64) e))

offset-more : (n m : ℕ) → offset (offset n + m) ≡ offset (n + m)
offset-more n m = by-test (ltb n (2 ^ 64)) refl (ltb (offset n + m) (2 ^ 64)) refl
  where
    by-test : (b : Bool) → ltb n (2 ^ 64) ≡ b → (d : Bool) → ltb (offset n + m) (2 ^ 64) ≡ d → offset (offset n + m) ≡ offset (n + m)
    by-test true e d f = ap (λ (k : ℕ). offset (k + m)) (offset-is n (ltb-true n (2 ^ 64) e))
    by-test false e true f =
        let h = ltb-false n (2 ^ 64) e in
        offset-is (offset n + m) (ltb-true (offset n + m) (2 ^ 64) f)
        ∙ omega (arith, h, offset-last n h, ltb-true (offset n + m) (2 ^ 64) f, offset-last (n + m) (omega (arith, h)))
    by-test false e false f =
        let h = ltb-false n (2 ^ 64) e in
        offset-last (offset n + m) (ltb-false (offset n + m) (2 ^ 64) f) ∙ sym (offset-last (n + m) (omega (arith, h)))

-- One text after another.

module _ (a b : List ℕ) (at : ℕ) (l : List ℕ) where
  -- what the second text writes, by the length of the buffer that the first leaves
  same-room : room (sets l at (take (room l at) a)) (offset (at + length a)) ≡ room l (offset (at + length a))
  same-room = ap (λ (n : ℕ). offset n - offset (at + length a)) (length-sets l at (take (room l at) a))

  within : at + length a ≤ offset (length l)
      → sets (sets l at (take (room l at) a)) (offset (at + length a)) (take (room l (offset (at + length a))) b) ≡ sets l at (take (room l at) (a ++ b))
  within h =
      let small = (offset-either (length l)).1 in
      let here : offset (at + length a) ≡ at + length a = offset-is (at + length a) (omega (arith, small, h)) in
      let rest : room l at ≡ length a + (offset (length l) - (at + length a)) = omega (arith, h) in
      rw (here, take_all (room l at) a (omega (arith, h)), sets-append l at a (take (offset (length l) - (at + length a)) b), rest, take-append-add a b (offset (length l) - (at + length a)))

  past : offset (length l) < at + length a
      → sets (sets l at (take (room l at) a)) (offset (at + length a)) (take (room l (offset (at + length a))) b) ≡ sets l at (take (room l at) (a ++ b))
  past h =
      let none : room l (offset (at + length a)) ≡ 0 = no_room in
      let few : room l at ≤ length a = omega (arith, h) in
      rw (none, take-append-le (room l at) a b few)
    where
      no_room : room l (offset (at + length a)) ≡ 0
      no_room = by-test (ltb (at + length a) (2 ^ 64)) refl
        where
          by-test : (s : Bool) → ltb (at + length a) (2 ^ 64) ≡ s → room l (offset (at + length a)) ≡ 0
          by-test true e = omega (arith, h, offset-is (at + length a) (ltb-true (at + length a) (2 ^ 64) e))
          by-test false e = omega (arith, h, (offset-either (length l)).1, offset-last (at + length a) (ltb-false (at + length a) (2 ^ 64) e))

  pub appended-append : appended b (appended a (at, l)) ≡ appended (a ++ b) (at, l)
  unfolding appended
  appended-append =
      ap₂ (λ (n : ℕ) (m : List ℕ). (n, m))
      (offset-more (at + length a) (length b) ∙ ap offset (omega (arith, length-append a b)))
      (rw same-room (by-test (leb (at + length a) (offset (length l))) refl))
    where
      by-test : (s : Bool) → leb (at + length a) (offset (length l)) ≡ s
          → sets (sets l at (take (room l at) a)) (offset (at + length a)) (take (room l (offset (at + length a))) b) ≡ sets l at (take (room l at) (a ++ b))
      by-test true e = within (leb-true (at + length a) (offset (length l)) e)
      by-test false e = past (leb-false (at + length a) (offset (length l)) e)

-- one appender after another
pub and_then : {a b : List ℕ} {s t u : ℕ × List ℕ} → Appends a s t → Appends b t u → Appends (a ++ b) s u
and_then {a} {b} {s} p q = record { is = q.is ∙ ap (appended b) p.is ∙ appended-append a b s.0 s.1 }

-- no text
pub none : {at : ℕ} {l : List ℕ} → at < 2 ^ 64 → Appends [] (at, l) (at, l)
unfolding appended
none {at} {l} h =
    record { is = ap₂ (λ (n : ℕ) (m : List ℕ). (n, m)) (sym (offset-is at h) ∙ ap offset (sym (add-zero at))) (ap (sets l at) (sym (take-nil (room l at)))) }

-- Measured, and written whole.

module _ {t l : List ℕ} {n : ℕ} {after : List ℕ} (p : Appends t (0, l) (n, after)) where
  pub measured : length t < 2 ^ 64 → n ≡ length t
  unfolding appended
  measured small = ap (λ (o : ℕ × List ℕ). o.0) p.is ∙ ap offset (zero-add (length t)) ∙ offset-is (length t) small

  pub written : length t < 2 ^ 64 → length t ≤ length l → after ≡ t ++ drop (length t) l
  unfolding appended
  written small h =
      ap (λ (o : ℕ × List ℕ). o.1) p.is
      ∙ rw (take_all (room l 0) t (omega (arith, offset-over (length t) (length l) small h)), sets-eq t l 0 (omega (arith, h)), zero-add)

-- An appender that looks at the room: past the end nothing is written, and with room for the text all of it.

module _ (t : List ℕ) {at : ℕ} {l : List ℕ} (small : length l < 2 ^ 64) where
  pub past_end : length l ≤ at → {n : ℕ} → n ≡ offset (at + length t) → Appends t (at, l) (n, l)
  unfolding appended
  past_end h {n} e =
      let none : room l at ≡ 0 = omega (arith, h, offset-is (length l) small) in
      record { is = ap₂ (λ (m : ℕ) (k : List ℕ). (m, k)) e (rw none) }

  pub in_room : at + length t ≤ length l → {n : ℕ} {after : List ℕ} → n ≡ at + length t → after ≡ sets l at t → Appends t (at, l) (n, after)
  unfolding appended
  in_room h {n} {after} e w =
      let enough : length t ≤ room l at = omega (arith, h, offset-is (length l) small) in
      record {
        is =
            ap₂ (λ (m : ℕ) (k : List ℕ). (m, k)) (e ∙ sym (offset-is (at + length t) (omega (arith, h, small))))
            (w ∙ ap (sets l at) (sym (take_all (room l at) t enough)));
      }

-- no appender changes the length of its buffer
pub same_length : {t : List ℕ} {at : ℕ} {l : List ℕ} {n : ℕ} {after : List ℕ} → Appends t (at, l) (n, after) → length after ≡ length l
unfolding appended
same_length {t} {at} {l} p = ap (λ (o : ℕ × List ℕ). length o.1) p.is ∙ length-sets l at (take (room l at) t)
