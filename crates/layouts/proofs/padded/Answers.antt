-- At the end the index is past what is given: that, then what is left of the padding.
use mathlib.Core.Path.{◌≡◌, sym, ap, ap₂, ◌∙◌}
use mathlib.Core.List.{List, ◌++◌}
use Prim.Native.Nat.{ℕ, ◌-◌}
use borrow.Author.Rules.{rules}
use lib.ListN.{length, take, drop, replicate}
use lib.Seq.{take-length}
use Rattle.std.proofs.lemmas.List.{drop-replicate, take-append-drop}
use Rattle.layouts.proofs.padded.Goals as goal

whole : {A : Type 0} (room i : ℕ) (x : A) (all given : List A) → i ≡ length given → take i all ≡ take i given
    → drop i all ≡ drop i (replicate room x) → all ≡ given ++ replicate (room - length given) x
whole room i x all given e front back =
    sym (take-append-drop i all)
    ∙ ap₂ ◌++◌ (front ∙ ap (λ k. take k given) e ∙ take-length given)
    (back ∙ drop-replicate i room x ∙ ap (λ k. replicate (room - k) x) e)

pub returns : goal.returns
returns g c =
    let e : c.loop-i.i ≡ length c.args.given = search rules in
    whole _ _ _ _ _ e c.loop-i.invariant.0 c.loop-i.invariant.1
