-- #105: a value is refused by 1 exactly where the first check that fails, in 01's order, is that of a checked reserved field, and start, width and
-- value are that field's: the first failure of a reading, with the row taken apart.
use Rattle.std.proofs.Common.{◌≡◌, ℕ, List, [], ◌∷◌, sym, refl, ap, ◌∙◌, arith}
use Rattle.refusals.specs.Refusals.{reserved_bits, refusal_number, reason_number}
use Rattle.refusals.specs.declared.Reason.TheVariants.{InvalidRes0}
use Rattle.refusals.specs.declared.Refusal.{Refusal}
use Rattle.records.specs.Kinds.{Coded}
use Rattle.records.specs.declared.Row.{Row}
use Rattle.records.proofs.ByMark.{not_res0}
use Rattle.esr.specs.Promises.{Decoded}
use Rattle.esr.specs.declared.Answer.{Answer}
use Rattle.reading.specs.Refusing.{not_zero, not_listed, First, here, later, Refusing}
use Rattle.reading.specs.Given.{FirstReserved, here as first, later as after, NotZero}
use Rattle.reading.proofs.Given.{bits_shifted}
use Rattle.reading.proofs.Reading.{refusing-refused, refused-refusing}

first_of : (v start width x : ℕ) (rows : List Row) → FirstReserved v start width x rows → First v (reserved_bits start width x) rows
first_of v start width x [] m = elim m [ ]
first_of v start width x (r ∷ rs) (first k s w o z) = here (not_zero (bits_shifted (sym s) (sym w) o) k refl (sym s, sym w) z)
first_of v start width x (r ∷ rs) (after m g) = later m (first_of v start width x rs g)

of-first : (v : ℕ) (f : Refusal) (rows : List Row) → f.reason ≡ InvalidRes0 → First v f rows → FirstReserved v f.start f.width f.carries rows
of-first v f [] e m = elim m [ ]
of-first v f (r ∷ rs) e (here (not_zero o k i b z)) = first k (sym b.0) (sym b.1) (bits_shifted (sym b.0) (sym b.1) o) z
of-first v f (r ∷ rs) e (here (not_listed o k b n)) = absurd (not_res0 r.kind (k ∙ ap Coded e))
of-first v f (r ∷ rs) e (later m g) = after m (of-first v f rs e g)

module _ (esr : ℕ) (r : Answer) (d : Decoded esr r) where
  -- A value whose first failing check is that of a checked reserved field is refused by 1, with the start, the width and the value of that field.
  pub not_zero-refused : (start width x : ℕ) → NotZero esr start width x → r.refusal ≡ reserved_bits start width x
  not_zero-refused start width x n =
      refusing-refused esr r d (reserved_bits start width x)
      (record { checks = n.checks; order = n.order; first = first_of esr start width x n.checks n.first })

  -- What a value that is refused by 1 is told is the start, the width and the value of its first failing field, which is reserved and checked.
  pub refused-not_zero : r.refusal.reason ≡ InvalidRes0 → NotZero esr r.refusal.start r.refusal.width r.refusal.carries
  refused-not_zero e =
      let k : Refusing esr r.refusal =
      refused-refusing esr r d (λ h. let z : ◌≡◌ {A = ℕ} 1 0 = sym (ap reason_number e) ∙ ap refusal_number h in omega arith) in
      record { checks = k.checks; order = k.order; first = of-first esr r.refusal k.checks e k.first }
