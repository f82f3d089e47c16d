-- By the mark of the row's kind.
use mathlib.Core.Logic.{inl, inr}
use mathlib.Core.Path.{◌≡◌, refl, sym, ap, ◌∙◌}
use Prim.Native.Nat.{ℕ}
use lib.Dec.{eqb}
use Rattle.texts.specs.Pool.{describes}
use Rattle.records.specs.Kinds.{mark_of}
use Rattle.records.specs.Rows.{meets, value_in, row_kind}
use Rattle.records.specs.declared.Mark.{Mark}
use Rattle.records.specs.declared.Row.{Row}
use Rattle.records.proofs.ByMark.{allows_by, marked-allows}
use Rattle.records.proofs.Row.meets.Goals as goal

-- by each mark what is asked is what the row asks
marked : (row : Row) (v : ℕ) (y : Mark) → y ≡ mark_of (row_kind row)
    → allows_by y row.rule (value_in v row) ≡ meets v row
unfolding meets
marked row v y e = marked-allows (row_kind row) _ y row.rule (value_in v row) e refl

pub returns-in-Free : goal.returns-in-Free
returns-in-Free c = elim c.in-Free.is [
  | inl e ↦ marked c.args.self c.args.v _ (sym e ∙ c.of_kind.ensures)
  | inr e ↦ marked c.args.self c.args.v _ (sym e ∙ c.of_kind.ensures)
]

pub returns-in-Coded : goal.returns-in-Coded
returns-in-Coded c =
    c.describes.ensures
    ∙ ap (describes c.args.self.rule) c.field-value.ensures
    ∙ marked c.args.self c.args.v _ (sym c.in-Coded.is ∙ c.of_kind.ensures)

pub returns-in-Checked : goal.returns-in-Checked
returns-in-Checked c =
    ap (λ (n : ℕ). eqb n 0) c.field-value.ensures ∙ marked c.args.self c.args.v _ (sym c.in-Checked.is ∙ c.of_kind.ensures)
