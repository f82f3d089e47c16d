-- The index is the sum of what the bits weigh and of the kind of the status, each of which is small.
use mathlib.Core.Path.{◌≡◌, sym, subst}
use mathlib.Core.Bool.{cond}
use mathlib.Core.List.{[], ◌∷◌}
use Prim.Native.Nat.{ℕ, ◌≤◌, ◌<◌}
use native.Mathlib.Omega.{arith}
use Rattle.promise.specs.Member.{member}
use Rattle.layout_sets.specs.Outcomes.{kind_of, index_at}
use Rattle.layout_sets.proofs.Outcomes.{most, kind-small}
use Rattle.layout_sets.proofs.index_of.Goals as goal

light : (bit : ℕ) {w r : ℕ} → r ≡ cond (member bit (1 ∷ [])) w 0 → r ≤ w
light bit {w} e = subst (λ n. n ≤ w) (sym e) (most (member bit (1 ∷ [])) w)

small : (s : ℕ) {r : ℕ} → r ≡ kind_of s → r < 4
small s e = subst (λ n. n < 4) (sym e) (kind-small s)

pub overflow_add-result : goal.overflow_add-result
overflow_add-result c =
    omega (arith, light c.args.bit_10 c.weighed-2.ensures, light c.args.bit_24 c.weighed.ensures)

pub overflow_add-result-2 : goal.overflow_add-result-2
overflow_add-result-2 c =
    omega (
      arith,
      light c.args.bit_7 c.weighed-3.ensures,
      light c.args.bit_10 c.weighed-2.ensures,
      light c.args.bit_24 c.weighed.ensures,
    )

pub overflow_add-result-3 : goal.overflow_add-result-3
overflow_add-result-3 c =
    omega (
      arith,
      small c.args.status c.kind_of.ensures,
      light c.args.bit_7 c.weighed-3.ensures,
      light c.args.bit_10 c.weighed-2.ensures,
      light c.args.bit_24 c.weighed.ensures,
    )

pub returns : goal.returns
unfolding index_at
returns c = cc
