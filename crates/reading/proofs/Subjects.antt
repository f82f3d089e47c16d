-- A rule speaks of a value by the number that the decoder looks up: the key is made of the same bits, and in a table whose keys rise it stands at one place.
use Rattle.std.proofs.Common.{◌≡◌, ℕ, suc, ◌<◌, ◌≤◌, Bool, true, false, cond, T, eqb, ltb, leb, List, [], ◌∷◌, length, sym, refl, ap, ◌∙◌, subst, le_of_suc-le-suc, not-suc-le-zero, arith, leb→le, eq-eqb, ne_eqb, eqb-true}
use borrow.Author.Tests.{eqb-false}
use Rattle.promise.proofs.Tests.{both_left, both_right}
use Rattle.registers.specs.Registers.{Register, registers, place_in}
use Rattle.registers.proofs.Laws.{keys_of, rising, registers_sorted, registers-count}
use Rattle.texts.specs.Rules.{system_register, rules}
use Rattle.texts.specs.Pool.{describes, rule_at}
use Rattle.texts.proofs.Laws.{describes-below}
use Rattle.records.specs.Bits.{field_of}
use Rattle.records.specs.Subjects.{key_of, subject}
use Rattle.reading.specs.Reading.{HasKey, Stands, first, next, SpeaksBy, itself, register}
use Rattle.reading.proofs.HasBits.{bits_is, bits-of}

key-is : {iss key : ℕ} → HasKey iss key → key ≡ key_of iss
unfolding key_of
key-is h = omega (arith, h.whole, bits_is h.has_op0, bits_is h.has_op1, bits_is h.has_crn, bits_is h.has_crm, bits_is h.has_op2)

key-of : (iss : ℕ) → HasKey iss (key_of iss)
unfolding key_of
key-of iss =
    record {
      op0 = field_of iss 20 2;
      op1 = field_of iss 14 3;
      crn = field_of iss 10 4;
      crm = field_of iss 1 4;
      op2 = field_of iss 17 3;
      has_op0 = bits-of iss 20 2;
      has_op2 = bits-of iss 17 3;
      has_op1 = bits-of iss 14 3;
      has_crn = bits-of iss 10 4;
      has_crm = bits-of iss 1 4;
      whole = refl;
    }

stands-place : {k n : ℕ} (low : ℕ) (rs : List Register) → T (rising low (keys_of rs)) → Stands k n rs → (low ≤ k) × (place_in rs k ≡ n)
unfolding place_in
stands-place {k} {n} low [] t m = elim m [ ]
stands-place {k} low (r ∷ rs) t (first e) = (
  omega (arith, e, leb→le low r.key (both_left (leb low r.key) _ t)),
  rw (eq-eqb k r.key (sym e)) refl,
)
stands-place {k} low (r ∷ rs) t (next s) =
    let rest : _ = stands-place (suc r.key) rs (both_right (ltb r.key 0x10000) _ (both_right (leb low r.key) _ t)) s in
    let above : suc r.key ≤ k = rest.0 in (
      omega (arith, leb→le low r.key (both_left (leb low r.key) _ t)),
      rw (ne_eqb k r.key (λ e. omega arith)) (ap suc rest.1),
    )

place-stands : (k : ℕ) (rs : List Register) → place_in rs k < length rs → Stands k (place_in rs k) rs
unfolding place_in
place-stands k [] h = absurd (not-suc-le-zero h)
place-stands k (r ∷ rs) h = by (eqb k r.key) refl h (place-stands k rs)
  where
    by : (b : Bool) → eqb k r.key ≡ b → cond b 0 (suc (place_in rs k)) < suc (length rs) → (place_in rs k < length rs → Stands k (place_in rs k) rs)
        → Stands k (cond b 0 (suc (place_in rs k))) (r ∷ rs)
    by true e l rest = first (sym (eqb-true k r.key e))
    by false e l rest = next (rest (le_of_suc-le-suc l))

pub speaks_is : {rule value n : ℕ} → SpeaksBy rule value n → n ≡ subject rule value
unfolding subject
speaks_is {rule} {value} (itself other e) = rw (ne_eqb rule system_register.number other) e
speaks_is {rule} {value} {n} (register {key} is h s) =
    rw (eq-eqb rule system_register.number is)
    (sym (ap (place_in registers) (sym (key-is h)) ∙ (stands-place 0 registers registers_sorted s).1))

-- what the rule of system registers says something of is a place of the table
in_table : (p : ℕ) → T (describes system_register.number p) → p < length registers
unfolding rule_at rules
in_table p u = omega (arith, describes-below system_register.number p u, registers-count)

-- where the rule says something
pub subject_speaks : (rule value : ℕ) → T (describes rule (subject rule value)) → SpeaksBy rule value (subject rule value)
unfolding subject
subject_speaks rule value t = by (eqb rule system_register.number) refl t
  where
    by : (b : Bool) → eqb rule system_register.number ≡ b → T (describes rule (cond b (place_in registers (key_of value)) value))
        → SpeaksBy rule value (cond b (place_in registers (key_of value)) value)
    by true e u =
        let is : rule ≡ system_register.number = eqb-true rule system_register.number e in
        register is (key-of value) (place-stands (key_of value) registers (in_table (place_in registers (key_of value)) (subst (λ (n : ℕ). T (describes n (place_in registers (key_of value)))) is u)))
    by false e u = itself (eqb-false rule system_register.number e) refl
