-- Each return is the case of the digit that its tests lead to; the tests by division are the bound on the next value.
use Rattle.std.proofs.Common.{◌+◌, ◌-◌, ◌*◌, ◌^◌, ◌≤◌, sym, ◌∙◌, arith, rules}
use Rattle.number.proofs.Laws.{fits, roomy, over, base_pos, read-no_digit, read-over, read-grown}
use Rattle.number.proofs.NumberState.read_digit.Goals as goal
use Rattle.number.proofs.NumberState.read_digit.Goals.{Joined-else-base-self, else-base-self-via-then-base-self+else-digit-base, else-base-self-via-else-base-self}

-- past the tests the next value fits
room : (c : Joined-else-base-self) → c.args.self.value * c.base_of-base.result + c.digit_of-digit.result ≤ 2 ^ 64 - 1
room c =
    let a = c.args.self in
    let v = a.value in
    let k = c.base_of-base.result in
    let d = c.digit_of-digit.result in
    let pos = base_pos a.hex c.base_of-base.ensures in
    elim c.else-base-self.branch [
      | else-base-self-via-then-base-self+else-digit-base w ↦ fits v k d (2 ^ 64 - 1) pos (omega arith) w.if-digit-base.false
      | else-base-self-via-else-base-self w ↦ roomy v k d (2 ^ 64 - 1) pos c.if-base-digit.false w.if-base-self.false
    ]

pub returns-then-base-digit : goal.returns-then-base-digit
returns-then-base-digit c =
    let a = c.args in
    c.in_digits.ensures
    ∙ sym (read-no_digit a.self a.b _ _ c.digit_of-digit.ensures c.base_of-base.ensures c.if-base-digit.true)

pub returns-then-digit-base : goal.returns-then-digit-base
returns-then-digit-base c =
    let a = c.args in
    c.in_digits-then-digit-base.ensures
    ∙ sym
    (read-over a.self a.b _ _ c.digit_of-digit.ensures c.base_of-base.ensures c.if-base-digit.false
    (over a.self.value c.base_of-base.result c.digit_of-digit.result (2 ^ 64 - 1)
    (base_pos a.self.hex c.base_of-base.ensures) (search rules) c.if-digit-base.true))

pub overflow_mul-self : goal.overflow_mul-self
overflow_mul-self c = omega (arith, room (goal.at.overflow_mul-self c).Joined-else-base-self)

pub overflow_add-self : goal.overflow_add-self
overflow_add-self c = omega (arith, room (goal.at.overflow_add-self c).Joined-else-base-self)

pub returns : goal.returns
returns c =
    let a = c.args in
    c.in_digits-2.ensures
    ∙ sym
    (read-grown a.self a.b _ _ c.digit_of-digit.ensures c.base_of-base.ensures c.if-base-digit.false
    (room (goal.at.returns c).Joined-else-base-self))
