-- How a promise is kept: by a refusal, by too little room, by the text written at the buffer's front.
use mathlib.Core.Bool.{Bool, true, false, cond}
use mathlib.Core.Path.{◌≡◌, refl, sym, ap, ◌∙◌}
use mathlib.Core.List.{List}
use Prim.Native.Nat.{ℕ, ◌^◌, ◌<◌}
use borrow.Author.Tests.{leb-true}
use lib.Dec.{leb}
use lib.ListN.{length}
use Rattle.std.specs.Prelude.{Result, Ok, Err}
use Rattle.std.specs.Result.{IsErr, IsErrAnd}
use Rattle.std.proofs.lemmas.Result.{err_from_is_err_and}
use Rattle.refusals.specs.Refusals.{carrying}
use Rattle.refusals.specs.declared.Reason.TheVariants.{ShortBuffer}
use Rattle.refusals.specs.declared.Refusal.{Refusal}
use Rattle.written.specs.Outcomes.{Outcome, refused, text, answered, left, Answers}
use Rattle.written.specs.Promises.{RoomFor}
use Rattle.buffer.specs.Appending.{Appends}
use Rattle.buffer.proofs.Appending.{measured, written}

-- what a `?` that passes a refusal on returns
pub exit : {r : Result ℕ Refusal} {f : Refusal} → IsErr r × IsErrAnd r (λ y. y ≡ f) → r ≡ Err f
exit {r} e = let p = err_from_is_err_and r e.1 in p.1 ∙ ap Err p.2

-- whether there is room, as it was told
abbrev is_ok : Result ℕ Refusal → Bool
is_ok (Ok n) = true
is_ok (Err f) = false

told : (b : List ℕ) (n : ℕ) {q : Result ℕ Refusal} → RoomFor (n, b) q → leb n (length b) ≡ is_ok q
told b n room = sym (ap is_ok room ∙ by (leb n (length b)))
  where
    by : (p : Bool) → is_ok (cond p (Ok n) (Err (carrying ShortBuffer n))) ≡ p
    by true = refl
    by false = refl

module _ {o : Outcome} {b : List ℕ} {r : Result ℕ Refusal} where
  pub by-refusal : {f : Refusal} → o ≡ refused f → r ≡ Err f → Answers o b (r, b)
  unfolding answered left
  by-refusal e a = rw (e, a) (refl, refl)

  -- measured without a buffer, at n bytes, for which room was looked for
  module _ {t m : List ℕ} {n : ℕ} {none : List ℕ} {q : Result ℕ Refusal} (e : o ≡ text t) (small : length t < 2 ^ 64)
      (measure : Appends t (0, m) (n, none)) (room : RoomFor (n, b) q) where
    pub by_shortness : {f : Refusal} → q ≡ Err f → r ≡ Err f → Answers o b (r, b)
    unfolding answered left
    by_shortness h a =
        let is = measured measure small in
        let no : leb n (length b) ≡ false = told b n room ∙ ap is_ok h in
        rw (e, ← is, no) (a ∙ sym h ∙ room ∙ rw no refl, refl)

    pub by_writing : {k to : ℕ} {after : List ℕ} → q ≡ Ok k → Appends t (0, b) (to, after) → r ≡ Ok k
        → Answers o b (r, after)
    unfolding answered left
    by_writing h w a =
        let is = measured measure small in
        let yes : leb n (length b) ≡ true = told b n room ∙ ap is_ok h in
        let s = leb-true n (length b) yes in
        rw (e, ← is, yes) (a ∙ sym h ∙ room ∙ rw yes refl, rw is (written w small (rw is at s)))
