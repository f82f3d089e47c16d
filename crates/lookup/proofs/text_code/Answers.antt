-- The code is the rule's first code plus the value where its bits say that the value has a text.
use mathlib.Core.Path.{◌≡◌, sym, ap, ◌∙◌}
use mathlib.Core.Bool.{Bool, true, false, cond}
use Prim.Native.Nat.{ℕ, ◌+◌, ◌<◌}
use native.Mathlib.Omega.{arith}
use Rattle.promise.proofs.Tests.{is_true}
use Rattle.texts.specs.Pool.{describes, first_of, text_code}
use Rattle.lookup.specs.Descriptions.{bit_in, numbers_of}
use Rattle.lookup.specs.declared.Descriptions.{Descriptions}
use Rattle.lookup.proofs.Numbers.{bit_in_lem, describes-small, first_le}
use Rattle.lookup.proofs.text_code.Goals as goal

described : (rule value : ℕ) (s : Descriptions) (b t : Bool)
    → s ≡ numbers_of rule → b ≡ bit_in s.0 value → b ≡ t → describes rule value ≡ t
described rule value s b t is has tested =
    sym (bit_in_lem rule value) ∙ ap (λ (x : Descriptions). bit_in x.0 value) (sym is) ∙ sym has ∙ tested

starts : (rule : ℕ) (s : Descriptions) → s ≡ numbers_of rule → s.1 ≡ first_of rule
unfolding numbers_of
starts rule s is = ap (λ (x : Descriptions). x.1) is

pub overflow_cast-result : goal.overflow_cast-result
overflow_cast-result c =
    let value : ℕ = c.args.value in
    let small : value < 64 =
    describes-small c.args.rule value
    (is_true (described _ value _ _ true c.in_numbers-s.ensures c.has.ensures c.if-has.true)) in
    omega arith

pub overflow_add-result : goal.overflow_add-result
overflow_add-result c =
    let rule : ℕ = c.args.rule in
    let value : ℕ = c.args.value in
    let small : value < 64 =
    describes-small rule value
    (is_true (described rule value _ _ true c.in_numbers-s.ensures c.has.ensures c.if-has.true)) in
    omega (arith, starts rule _ c.in_numbers-s.ensures, first_le rule)

pub returns-then-has : goal.returns-then-has
unfolding text_code
returns-then-has c =
    let rule : ℕ = c.args.rule in
    let value : ℕ = c.args.value in
    ap (λ (n : ℕ). n + value) (starts rule _ c.in_numbers-s.ensures)
    ∙ ap (λ (t : Bool). cond t (first_of rule + value) 0)
    (sym (described rule value _ _ true c.in_numbers-s.ensures c.has.ensures c.if-has.true))

pub returns : goal.returns
unfolding text_code
returns c =
    let rule : ℕ = c.args.rule in
    let value : ℕ = c.args.value in
    ap (λ (t : Bool). cond t (first_of rule + value) 0)
    (sym (described rule value _ _ false c.in_numbers-s.ensures c.has.ensures c.if-has.false))
