-- Where the layout has no row, ISS is put in the first place; elsewhere the layout's rows are the leaves' own.
use Rattle.std.proofs.Common.{◌≡◌, ℕ, ◌<◌, List, [], ◌∷◌, length, take, set, sym, refl, ap, ◌∙◌, arith, length-set, length-take-le}
use Rattle.records.specs.declared.Row.{Row}
use Rattle.tables.specs.Shape.{Table}
use Rattle.tables.specs.Applying.{rows_for}
use Rattle.tables.specs.Tables.{iss_under}
use Rattle.layouts.specs.Layouts.{table_of, layout_for}
use Rattle.layouts.specs.declared.Layout.{Layout}
use Rattle.layouts.proofs.Indices.{Fits, layout-fits, layout-rows}
use Rattle.layout_sets.specs.Fitting.{leaf_rows}
use Rattle.layout_sets.specs.Outcomes.{outcome_of}
use Rattle.maker.specs.Laid.{rows_at}
use Rattle.maker.proofs.leaf_rows.Goals as goal

first-set : (rows : List Row) (r : Row) → 0 < length rows → take 1 (set rows 0 r) ≡ r ∷ []
first-set [] r h = absurd (omega arith)
first-set (x ∷ xs) r h = refl

own-rows : (t : Table) (rows : List Row) → (length rows ≡ 0 → ⊥) → leaf_rows t rows ≡ rows
own-rows t [] h = absurd (h refl)
own-rows t (r ∷ rs) h = refl

no_rows : (t : Table) (rows : List Row) → rows ≡ [] → iss_under t.iss_rule ∷ [] ≡ leaf_rows t rows
no_rows t rows e = ap (leaf_rows t) (sym e)

module _ (number index iss : ℕ) (at : iss ≡ outcome_of index) (l : Layout)
    (is : l ≡ layout_for (table_of number) iss) where
  here : l ≡ layout_for (table_of number) (outcome_of index)
  here = is ∙ ap (layout_for (table_of number)) at

  rule-is : l.rule ≡ (table_of number).iss_rule
  unfolding layout_for
  rule-is = ap (λ (x : Layout). x.rule) is

  pub fits : Fits l
  fits = layout-fits number (outcome_of index) l here

  pub undivided : l.count ≡ 0 → take 1 (set l.rows 0 (iss_under l.rule)) ≡ rows_at number index
  undivided e =
      first-set l.rows (iss_under l.rule) (omega (arith, fits.long))
      ∙ ap (λ (n : ℕ). iss_under n ∷ []) rule-is
      ∙ no_rows (table_of number) (rows_for (table_of number) (outcome_of index))
      (sym (layout-rows number (outcome_of index) l here) ∙ ap (λ (n : ℕ). take n l.rows) e)

  pub divided : (l.count ≡ 0 → ⊥) → take l.count l.rows ≡ rows_at number index
  divided h =
      let rows : take l.count l.rows ≡ rows_for (table_of number) (outcome_of index) =
      layout-rows number (outcome_of index) l here in
      let long : length (take l.count l.rows) ≡ l.count =
      length-take-le l.count l.rows (omega (arith, fits.few, fits.long)) in
      rows
      ∙ sym (own-rows (table_of number) (rows_for (table_of number) (outcome_of index))
      (λ e. h (sym long ∙ ap length rows ∙ e)))

pub returns-then-layout-eq0 : goal.returns-then-layout-eq0
returns-then-layout-eq0 c =
    let a = c.args in
    record {
      few = omega arith;
      long = length-set c.layout_of-layout.result.rows 0 _
          ∙
          (fits a.number a.index c.outcome.result c.outcome.ensures c.layout_of-layout.result c.layout_of-layout.ensures).long;
      rows =
          ap (λ (r : Row). take 1 (set c.layout_of-layout.result.rows 0 r)) c.iss_row.ensures
          ∙ undivided a.number a.index c.outcome.result c.outcome.ensures c.layout_of-layout.result
          c.layout_of-layout.ensures c.if-layout-eq0.true;
    }

pub returns : goal.returns
returns c =
    let a = c.args in
    record {
      few =
          (fits a.number a.index c.outcome.result c.outcome.ensures c.layout_of-layout.result c.layout_of-layout.ensures).few;
      long =
          (fits a.number a.index c.outcome.result c.outcome.ensures c.layout_of-layout.result c.layout_of-layout.ensures).long;
      rows = divided a.number a.index c.outcome.result c.outcome.ensures c.layout_of-layout.result
          c.layout_of-layout.ensures c.if-layout-eq0.false;
    }
