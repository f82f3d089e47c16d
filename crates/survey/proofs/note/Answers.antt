-- A value that is accepted adds one to the count of its class, another to that of the number that refuses it; the
-- other table stays.
use Prim.Native.Nat.{ℕ, ◌<◌}
use mathlib.Core.Path.{◌≡◌, sym, ap, ◌∙◌}
use native.Mathlib.Omega.{arith}
use lib.Dec.{eqb}
use lib.ListN.{length}
use Rattle.std.specs.Prelude.{Option}
use Rattle.refusals.specs.Refusals.{refusal_number}
use Rattle.refusals.specs.Values.{value_place}
use Rattle.esr.specs.declared.Answer.{Answer}
use Rattle.strict.specs.Strict.{answer_by}
use Rattle.strict.specs.declared.Profile.{Profile}
use Rattle.survey.specs.Surveys.{is_of_class, is_refused_at}
use Rattle.survey.proofs.Laws.{noted_there, noted_nowhere}
use Rattle.survey.proofs.Classes.{
  number_of,
  class-small,
  accepted-class,
  accepted-number,
  placed-refused,
  placed-there,
  refused-class,
  refused-small,
  refused-place,
  unplaced-accepted,
}
use Rattle.survey.proofs.note.Goals as goal

-- the number that was looked for is that of the value's answer
told : (profile : Profile) (esr : ℕ) {n : ℕ} {a : Answer} {o r : Option ℕ} → a ≡ answer_by profile esr
    → n ≡ refusal_number a.refusal → o ≡ value_place n → o ≡ r → value_place (number_of profile esr) ≡ r
told profile esr d e p is =
    sym (ap value_place (e ∙ ap (λ (x : Answer). refusal_number x.refusal) d)) ∙ sym p ∙ is

pub add_one-requires : goal.add_one-requires
add_one-requires c =
    let p = c.args.profile in
    let v = c.args.esr in
    let e = told p v c.decode_by.ensures c.number.ensures c.value_place.ensures c.in-Some.is in
    let h : c.in-Some.place < length c.args.refused.now = omega
    (arith, placed-there p v e, refused-small p v (placed-refused p v e), c.requires.1) in
    (h, c.requires.3 c.in-Some.place h)

pub add_one-requires-in-None : goal.add_one-requires-in-None
add_one-requires-in-None c =
    let h : c.field.result < length c.args.counts.now = omega
    (arith, class-small c.args.profile c.args.esr, c.field.ensures, c.requires.0) in
    (h, c.requires.2 c.field.result h)

pub returns-in-Some : goal.returns-in-Some
returns-in-Some c =
    let p = c.args.profile in
    let v = c.args.esr in
    let e = told p v c.decode_by.ensures c.number.ensures c.value_place.ensures c.in-Some.is in
    let r = placed-refused p v e in
    let there = placed-there p v e in (
      noted_nowhere (is_of_class p) v c.args.counts.now
          (λ q l. refused-class p v r q (omega (arith, c.requires.0, l))),
      noted_there (is_refused_at p) v c.args.refused.now c.add_one.new.counts c.in-Some.place
          (omega (arith, there, refused-small p v r, c.requires.1))
          (λ q l. refused-place p v r q (omega (arith, c.requires.1, l)) ∙ ap (λ (k : ℕ). eqb k q) (sym there))
          c.add_one.ensures,
    )

pub returns-in-None : goal.returns-in-None
returns-in-None c =
    let p = c.args.profile in
    let v = c.args.esr in
    let e = told p v c.decode_by.ensures c.number.ensures c.value_place.ensures c.in-None.is in
    let h = unplaced-accepted p v e in
    let f = c.field in
    let a = c.add_one-in-None in (
      noted_there (is_of_class p) v c.args.counts.now a.new.counts f.result
          (omega (arith, class-small p v, f.ensures, c.requires.0))
          (λ q l. accepted-class p v h q (omega (arith, c.requires.0, l)) ∙ ap (λ (k : ℕ). eqb k q) (sym f.ensures))
          a.ensures,
      noted_nowhere (is_refused_at p) v c.args.refused.now
          (λ q l. accepted-number p v h q (omega (arith, c.requires.1, l))),
    )
