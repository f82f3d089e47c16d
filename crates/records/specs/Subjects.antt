-- The number by which a text rule speaks of a field: the field's value, or, of an ISS of MSR and MRS, where its system register stands in the table (#108).
use Rattle.std.specs.Prelude.{ℕ, ◌+◌, ◌*◌, ◌^◌, cond, eqb}
use Rattle.registers.specs.Registers.{registers, place_in}
use Rattle.texts.specs.Rules.{system_register}
use Rattle.texts.specs.Pool.{text_code}
use Rattle.records.specs.Bits.{field_of}

-- "a 16-bit key, Op0 on top, then Op1, CRn, CRm, Op2"
unfoldable pub key_of : ℕ → ℕ
key_of iss =
    field_of iss 20 2 * 2 ^ 14 + field_of iss 14 3 * 2 ^ 11 + field_of iss 10 4 * 2 ^ 7 + field_of iss 1 4 * 2 ^ 3 + field_of iss 17 3

unfoldable pub subject : ℕ → ℕ → ℕ
subject rule value = cond (eqb rule system_register.number) (place_in registers (key_of value)) value

-- the code of what a rule says of a field; 0 for none
abbrev pub text_of : ℕ → ℕ → ℕ
text_of rule value = text_code rule (subject rule value)
