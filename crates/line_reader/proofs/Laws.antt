-- One turn of the loop over a part of the input, its two ends, that a part which has bytes goes on, and where a line
-- ends: by the cases of the definitions.
use Prim.Native.Nat.{ℕ, ◌+◌, ◌-◌, ◌≤◌, ◌<◌, min}
use mathlib.Core.Bool.{Bool, true, false, cond, not}
use mathlib.Core.List.{List, [], ◌∷◌}
use mathlib.Core.Path.{◌≡◌, refl, sym, ap, ◌∙◌}
use native.Mathlib.Nat.{not-suc-le-zero}
use native.Mathlib.Numerals.{add-one}
use native.Mathlib.Omega.{arith}
use lib.Dec.{eqb, ltb}
use lib.ListN.{length, get_or, take, drop, length-drop, drop_of_length-le}
use lib.Seq.{drop-cons}
use borrow.Author.Tests.{eq-eqb, ne_eqb, ltb-false, ltb-true}
use Rattle.std.proofs.lemmas.List.{take_all}
use Rattle.std.specs.List.{position_or_len}
use Rattle.std.specs.Option.{unwrap_or}
use Rattle.std.specs.Prelude.{Option, Some, None}
use Rattle.line_reader.specs.Lines.{line_end, line_feed, part_of}
use Rattle.line_reader.specs.declared.LinePart.{LinePart}
use Rattle.number.proofs.Laws.{either, by-test}
use Rattle.number.specs.Steps.{step_of}
use Rattle.number.specs.declared.NumberState.{NumberState}

module _ (st : NumberState) (s : List ℕ) (at : ℕ) where
  pub part-done : length s ≤ at → part_of st at (drop at s) ≡ record { state = st; next = at; ended = false }
  unfolding part_of
  part-done h = rw (drop_of_length-le s h)

  module _ (h : at < length s) where
    pub part-ended : get_or s at 0 ≡ 10 → part_of st at (drop at s) ≡ record { state = st; next = at + 1; ended = true }
    unfolding part_of
    part-ended e = rw (drop-cons s at 0) (simp (eq-eqb _ _ e))

    pub part-more : (get_or s at 0 ≡ 10 → ⊥) → part_of st at (drop at s) ≡ part_of (step_of st (get_or s at 0)) (at + 1) (drop (at + 1) s)
    unfolding part_of
    part-more n =
        rw (drop-cons s at 0)
        (simp (ne_eqb _ _ n) (ap (λ (k : ℕ). part_of (step_of st (get_or s at 0)) (at + 1) (drop k s)) (sym (add-one at))))

-- A part never ends before its offset, and where it has a byte it ends after it.

pub part-goes_on : (st : NumberState) (at : ℕ) (r : List ℕ) → at ≤ (part_of st at r).next
unfolding part_of
part-goes_on st at [] = omega arith
part-goes_on st at (b ∷ r) =
    either (λ (p : LinePart). at ≤ p.next) (eqb b line_feed) (omega arith) (omega (arith, part-goes_on (step_of st b) (at + 1) r))

pub part-moves : (st : NumberState) (at : ℕ) (r : List ℕ) → 0 < length r → at < (part_of st at r).next
unfolding part_of
part-moves st at [] h = absurd (not-suc-le-zero h)
part-moves st at (b ∷ r) h =
    either (λ (p : LinePart). at < p.next) (eqb b line_feed) (omega arith) (omega (arith, part-goes_on (step_of st b) (at + 1) r))

-- so a loop that takes part after part ends
pub part_moved : (st : NumberState) (s : List ℕ) (at : ℕ) {r : LinePart} → r ≡ part_of st at (drop at s) → at < length s → at < r.next
part_moved st s at e h = rw e (part-moves st at (drop at s) (omega (arith, length-drop at s)))

-- The end of a line.

end-between : (at : ℕ) (r : List ℕ) → (at ≤ line_end at r) × (line_end at r ≤ at + length r)
unfolding line_end
end-between at [] = (omega arith, omega arith)
end-between at (b ∷ r) =
    let further = end-between (at + 1) r in
    either (λ (e : ℕ). (at ≤ e) × (e ≤ at + length (b ∷ r))) (eqb b line_feed) (omega arith, omega arith) (omega (arith, further), omega (arith, further))

-- it lies where the first line feed does
abbrev pub feeds : ℕ → Bool
feeds b = eqb b line_feed

end-at : (at : ℕ) (r : List ℕ) → line_end at r ≡ at + position_or_len feeds r
unfolding line_end
end-at at [] = omega arith
end-at at (b ∷ r) =
    by-test (λ (t : Bool). cond t at (line_end (at + 1) r) ≡ at + cond (not t) (1 + position_or_len feeds r) 0) (feeds b)
    (λ e. omega arith)
    (λ e. omega (arith, end-at (at + 1) r))

abbrev found : List ℕ → Option ℕ
found r = cond (ltb (position_or_len feeds r) (length r)) (Some (position_or_len feeds r)) None

pub end-first : (at : ℕ) (r : List ℕ) {o : Option ℕ} {n : ℕ} → o ≡ found r → n ≡ unwrap_or o (length r) → at + n ≡ line_end at r
end-first at r {o} {n} is e =
    by-test
    (λ (t : Bool). ltb p (length r) ≡ t → unwrap_or (cond t (Some p) None) (length r) ≡ n → at + n ≡ line_end at r) (ltb p (length r))
    (λ e f h. omega (arith, h, end-at at r))
    (λ e f h. omega (arith, h, end-at at r, end-between at r, ltb-false p (length r) f))
    refl
    (sym (e ∙ ap (λ (x : Option ℕ). unwrap_or x (length r)) is))
  where
    p : ℕ
    p = position_or_len feeds r

-- the bytes from an offset on: none where it lies past the end
pub rest-from : (s : List ℕ) (from : ℕ) {k : ℕ} → k ≡ min from (length s) → take (length s - k) (drop k s) ≡ drop from s
rest-from s from {k} e =
    take_all (length s - k) (drop k s) (omega (arith, length-drop k s))
    ∙ by-test (λ (t : Bool). ltb (length s) from ≡ t → drop k s ≡ drop from s) (ltb (length s) from)
    (λ h f.
    drop_of_length-le s (omega (arith, ltb-true (length s) from f))
    ∙ sym (drop_of_length-le s (omega (arith, ltb-true (length s) from f))))
    (λ h f. ap (λ (n : ℕ). drop n s) (omega (arith, ltb-false (length s) from f)))
    refl

-- of a line that goes on within the bytes it lies there too
pub end-within : (s : List ℕ) (from : ℕ) {r : ℕ} → r ≡ line_end from (drop from s) → from ≤ length s → (from ≤ r) × (r ≤ length s)
end-within s from e h =
    let between = end-between from (drop from s) in
    (omega (arith, e, between, length-drop from s), omega (arith, e, between, length-drop from s))
