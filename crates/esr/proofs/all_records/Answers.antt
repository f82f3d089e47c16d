-- The top records written into the empty set are the set of the five; from there the invariant: the set is the top
-- records with those of the rows walked so far, and each turn writes one record after them.
use mathlib.Core.Path.{◌≡◌, refl, ap, ap₂, ◌∙◌}
use mathlib.Core.List.{List, [], ◌∷◌, map}
use Prim.Native.Nat.{ℕ, ◌+◌, ◌≤◌}
use native.Mathlib.Omega.{arith}
use lib.ListN.{take, set}
use Rattle.texts.specs.Names.{names}
use Rattle.texts.specs.Pool.{code, index_in}
use Rattle.records.specs.Rows.{record_of}
use Rattle.records.specs.Sets.{records_of}
use Rattle.records.specs.declared.Record.{Record}
use Rattle.records.specs.declared.Records.{Records}
use Rattle.records.proofs.Laws.{pushed_all}
use Rattle.layouts.specs.declared.Layout.{Layout}
use Rattle.layouts.proofs.Indices.{Fits, layout-fits}
use Rattle.tables.specs.Tables.{top_rows}
use Rattle.esr.proofs.Laws.{walked, laid-records, top_count, walk_count, walk_more}
use Rattle.esr.proofs.all_records.Goals as goal

five : (s : Records) (a b c d e : Record) → s ≡ records_of []
    → record { items = set (set (set (set (set s.items 0 a) 1 b) 2 c) 3 d) 4 e; count = 5 }
    ≡ records_of (a ∷ b ∷ c ∷ d ∷ e ∷ [])
unfolding records_of
five s a b c d e is =
    ap (λ (x : Records). record { items = set (set (set (set (set x.items 0 a) 1 b) 2 c) 3 d) 4 e; count = 5 }) is

cons : {x y : Record} {xs ys : List Record} → x ≡ y → xs ≡ ys → (x ∷ xs) ≡ (y ∷ ys)
cons e f = ap₂ ◌∷◌ e f

abbrev top_set : ℕ → Layout → Records
top_set esr layout = records_of (map (record_of esr) (top_rows layout.rule))

topped : (esr : ℕ) (layout : Layout) → (top_set esr layout).count ≡ 5
topped esr layout = top_count esr layout.rule (top_set esr layout) refl

abbrev Walked : ℕ → ℕ → Layout → Records → ℕ → Type 0
Walked esr iss layout out i = out ≡ pushed_all (top_set esr layout) (map (record_of iss) (take i layout.rows))

counted : (esr iss : ℕ) (layout : Layout) (out : Records) (i : ℕ) → Fits layout → i ≤ layout.count
    → Walked esr iss layout out i → out.count ≡ 5 + i
counted esr iss layout out i f h is =
    ap (λ (s : Records). s.count) is
    ∙ walk_count iss (top_set esr layout) layout.rows i (omega (arith, f.few, f.long))
    (omega (arith, f.few, topped esr layout))
    ∙ ap (λ (n : ℕ). n + i) (topped esr layout)

pub loop-i-init : goal.loop-i-init
unfolding pushed_all top_rows code index_in names
loop-i-init c =
    let a = c.args in (
      layout-fits a.number a.iss c.layout_of-layout.result c.layout_of-layout.ensures,
      five c.empty-out.result c.get.result c.get-2.result c.get-3.result
          c.get-4.result c.get-5.result c.empty-out.ensures
          ∙ ap records_of
          (cons c.get.ensures
          (cons c.get-2.ensures
          (cons c.get-3.ensures (cons c.get-4.ensures (cons c.get-5.ensures refl))))),
    )

pub offset_bounds-out-out : goal.offset_bounds-out-out
offset_bounds-out-out c =
    let a = c.args in
    let l = c.loop-i in
    let v = l.invariant in
    omega (arith, v.0.few, counted a.esr a.iss c.layout_of-layout.result l.out l.i v.0 (omega arith) v.1)

pub bounds-out-out : goal.bounds-out-out
bounds-out-out c =
    let a = c.args in
    let l = c.loop-i in
    let v = l.invariant in
    omega (arith, v.0.few, counted a.esr a.iss c.layout_of-layout.result l.out l.i v.0 (omega arith) v.1)

pub overflow_add-out : goal.overflow_add-out
overflow_add-out c =
    let a = c.args in
    let l = c.loop-i in
    let v = l.invariant in
    omega (arith, v.0.few, counted a.esr a.iss c.layout_of-layout.result l.out l.i v.0 (omega arith) v.1)

pub loop-i-preserved : goal.loop-i-preserved
loop-i-preserved c =
    let f = c.loop-i.invariant.0 in
    let a = c.args in
    let laid = c.layout_of-layout.result in (
      f,
      walk_more a.iss (top_set a.esr laid) c.loop-i.out laid.rows c.loop-i.i c.get-item.result
          c.loop-i.invariant.1 c.get-item.ensures
          (omega (arith, f.few, f.long)) (omega (arith, f.few, topped a.esr laid)),
    )

pub returns : goal.returns
unfolding walked
returns c =
    let a = c.args in
    let laid = c.layout_of-layout.result in
    let done : c.loop-i.i ≡ laid.count = omega arith in
    laid-records a.number a.iss laid c.layout_of-layout.ensures a.esr (top_set a.esr laid) c.loop-i.out refl
    (c.loop-i.invariant.1
    ∙ ap (λ (n : ℕ). pushed_all (top_set a.esr laid) (map (record_of a.iss) (take n laid.rows))) done)
