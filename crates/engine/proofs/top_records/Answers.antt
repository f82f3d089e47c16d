-- The five records written into the empty set are the set of the five.
use mathlib.Core.Path.{◌≡◌, refl, ap, ap₂, ◌∙◌}
use mathlib.Core.List.{List, [], ◌∷◌}
use Rattle.records.specs.Bits.{field_of}
use Rattle.records.specs.Rows.{record_of}
use Rattle.records.specs.Sets.{records_of}
use Rattle.records.specs.declared.Record.{Record}
use Rattle.tables.specs.Tables.{top_rows}
use Rattle.engine.proofs.Filling.{RES0, ISS2, EC, IL}
use Rattle.engine.proofs.Laws.{five}
use Rattle.engine.proofs.top_records.Goals as goal

cons : {x y : Record} {xs ys : List Record} → x ≡ y → xs ≡ ys → (x ∷ xs) ≡ (y ∷ ys)
cons e f = ap₂ ◌∷◌ e f

pub record_in-requires : goal.record_in-requires
unfolding field_of
record_in-requires c = tt

pub record_in-requires-2 : goal.record_in-requires-2
unfolding field_of
record_in-requires-2 c = tt

pub record_in-requires-3 : goal.record_in-requires-3
unfolding field_of
record_in-requires-3 c = tt

pub record_in-requires-4 : goal.record_in-requires-4
unfolding field_of
record_in-requires-4 c = tt

pub returns : goal.returns
unfolding top_rows
returns c =
    let of = record_of c.args.esr in
    five c.empty-out.result c.record_in.result c.record_in-2.result c.record_in-3.result c.record_in-4.result
    c.iss_record.result c.empty-out.ensures
    ∙ ap records_of
    (cons (c.record_in.ensures ∙ ap of RES0)
    (cons (c.record_in-2.ensures ∙ ap of ISS2)
    (cons (c.record_in-3.ensures ∙ ap of EC)
    (cons (c.record_in-4.ensures ∙ ap of IL) (cons {xs = []} {ys = []} c.iss_record.ensures refl)))))
