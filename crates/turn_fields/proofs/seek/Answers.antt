-- The invariant says what is left: the search goes on from an index with what was found so far.
use Prim.Native.Nat.{◌+◌, ◌≤◌}
use mathlib.Core.Path.{sym, ap, subst, ◌∙◌}
use mathlib.Core.Bool.{Bool}
use native.Mathlib.Omega.{arith}
use lib.ListN.{drop, get_or}
use Rattle.layouts.specs.Layouts.{pad}
use Rattle.turn_fields.specs.Fields.{count_of, fields_of, meant, one_more, seek_from}
use Rattle.turn_fields.specs.declared.Found.{Found}
use Rattle.turn_fields.proofs.Laws.{seek_all, seek_done, seek_step, one-within, few_fields}
use Rattle.turn_fields.proofs.seek.Goals as goal

pub loop-i-init : goal.loop-i-init
loop-i-init c =
    let a = c.args in
    (omega arith, seek_all (meant a.by) (fields_of a.esr))

pub and_one-found-requires : goal.and_one-found-requires
and_one-found-requires c =
    omega (arith, c.loop-i.invariant.0, c.loop-i-test.true, c.field_count-i-end.ensures, few_fields c.args.esr)

pub loop-i-preserved : goal.loop-i-preserved
loop-i-preserved c =
    let a = c.args in
    let p = meant a.by in
    let hit = c.is_of.ensures ∙ ap p c.field_row.ensures in
    let i = c.loop-i.i in
    let one = c.and_one-found.ensures ∙ ap (λ (b : Bool). one_more b i c.loop-i.found) hit in
    let step = seek_step p (fields_of a.esr) i c.loop-i.found
    (omega (arith, c.loop-i-test.true, c.field_count-i-end.ensures)) in (
      subst (λ (f : Found). count_of f ≤ i + 1) (sym one)
          (one-within (p (get_or (fields_of a.esr) i pad)) i c.loop-i.found c.loop-i.invariant.0),
      c.loop-i.invariant.1
          ∙ step
          ∙ ap (λ (f : Found). seek_from p (i + 1) f (drop (i + 1) (fields_of a.esr))) (sym one),
    )

pub returns : goal.returns
returns c =
    let a = c.args in
    sym (c.loop-i.invariant.1
    ∙ seek_done (meant a.by) (fields_of a.esr) c.loop-i.i c.loop-i.found
    (omega (arith, c.loop-i-test.false, c.field_count-i-end.ensures)))
