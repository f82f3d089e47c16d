-- #108: "the ISS record gets the name as its text if the key is there". In any reading of class 0x18 the fifth record holds ISS under the rule of system
-- registers; the register of its key stands at one place of the table, and the rule has its name there.
use Rattle.std.proofs.Common.{◌≡◌, ℕ, suc, ◌+◌, Bool, true, cond, T, eqb, List, [], ◌∷◌, ◌++◌, get_or, sym, refl, ap, ◌∙◌, subst, arith, eqb→eq, eq-eqb, ne_eqb}
use mathlib.Core.List.{Memᴰ}
use Rattle.promise.specs.Member.{member}
use Rattle.promise.proofs.Tests.{every, every_mem, member_of, true_is}
use Rattle.registers.specs.Registers.{Register, registers}
use Rattle.texts.specs.Rules.{system_register, at_places, rules}
use Rattle.texts.specs.Pool.{text_in, text_at, rule_at, description_of}
use Rattle.records.specs.Sets.{no_record}
use Rattle.records.specs.declared.Record.{Record}
use Rattle.records.specs.declared.Row.{Row}
use Rattle.tables.specs.Tables.{iss_under, top_rows, Served, layouts, msr}
use Rattle.reading.specs.Reading.{HasBits, Listed, HasKey, Stands, first, next, SpeaksBy, itself, register, Holds, HoldAll, more, Reading}
use Rattle.reading.proofs.HasBits.{bits_is}
use Rattle.reading.proofs.Subjects.{speaks_is}
use Rattle.reading.proofs.Judge.{held-text}

-- The fifth record.

abbrev names_iss : ℕ → Served → Bool
names_iss i s = cond (member 0x18 s.classes) (eqb s.table.iss_rule system_register.number) true

named_by : T (every names_iss 0 layouts)
unfolding layouts msr
named_by = tt

fifth : (v rule : ℕ) (rows : List Row) (l : List Record) → HoldAll v (top_rows rule ++ rows) l → Holds v (iss_under rule) (get_or l 4 no_record)
unfolding top_rows
fifth v rule rows l (more a (more b (more c (more d (more e rest))))) = e

pub iss-held : {v : ℕ} {l : List Record} → Reading v l → HasBits v 26 6 0x18 → Holds v (iss_under system_register.number) (get_or l 4 no_record)
iss-held {v} {l} r h =
    let s : Served = r.served in
    let c : r.classed.class ≡ 0x18 = bits_is r.classed.has ∙ sym (bits_is h) in
    let m : T (member 0x18 s.classes) = subst (λ (k : ℕ). T (member k s.classes)) c (member_of r.classed.class s.classes r.classed.serves) in
    let t : T (names_iss 0 s) = (every_mem names_iss s 0 layouts named_by r.classed.layout).1 in
    let e : s.table.iss_rule ≡ system_register.number =
    eqb→eq s.table.iss_rule system_register.number
    (subst (λ (b : Bool). T (cond b (eqb s.table.iss_rule system_register.number) true)) (true_is (member 0x18 s.classes) m) t) in
    subst (λ (n : ℕ). Holds v (iss_under n) (get_or l 4 no_record)) e (fifth v s.table.iss_rule r.rows l r.held)

-- Its text.

-- a register of a table stands at a place, and its name is the text of that place
record Placed (r : Register) (m : ℕ) (rs : List Register) : Type 0 where
  place : ℕ
  stands : Stands r.key place rs
  named : text_in (at_places m rs) (m + place) ≡ r.name

placed : (r : Register) (m : ℕ) (rs : List Register) → Memᴰ r rs → Placed r m rs
unfolding text_in
placed r m [] n = elim n [ ]
placed r m (x ∷ rs) (Memᴰ.head e) =
    let at : m + 0 ≡ m = omega arith in
    record {
      place = 0;
      stands = first (ap (λ (y : Register). y.key) (sym e));
      named = rw (eq-eqb (m + 0) m at) (ap (λ (y : Register). y.name) (sym e));
    }
placed r m (x ∷ rs) (Memᴰ.tail i) =
    let rest : Placed r (suc m) rs = placed r (suc m) rs i in
    let past : m + suc rest.place ≡ suc m + rest.place = omega arith in
    record {
      place = suc rest.place;
      stands = next rest.stands;
      named = rw (ne_eqb (m + suc rest.place) m (λ z. omega arith)) (ap (text_in (at_places (suc m) rs)) past ∙ rest.named);
    }

-- a place of the table is that of one of its registers
among : {k n : ℕ} (rs : List Register) → Stands k n rs → (r : Register) × Memᴰ r rs × (r.key ≡ k)
among {k} {n} [] m = elim m [ ]
among (r ∷ rs) (first e) = (r, Memᴰ.head refl, e)
among (x ∷ rs) (next s) = let rest : _ = among rs s in (rest.0, Memᴰ.tail rest.1, rest.2)

module _ (v : ℕ) (x : Record) (h : Holds v (iss_under system_register.number) x) where
  pub named : (r : Register) → Memᴰ r registers → HasKey x.value r.key → text_at x.text ≡ r.name
  unfolding description_of rule_at rules
  named r i k =
      let p : Placed r 0 registers = placed r 0 registers i in
      let e : 0 + p.place ≡ p.place = omega arith in
      held-text v (iss_under system_register.number) x h
      ∙ ap (description_of system_register.number) (sym (speaks_is (register refl k p.stands)) ∙ sym e)
      ∙ p.named

  pub unnamed : ((r : Register) → Memᴰ r registers → HasKey x.value r.key → ⊥) → x.text ≡ 0
  unnamed none = h.undescribed by
    where
      by : (n : ℕ) → SpeaksBy system_register.number x.value n → Listed system_register.number n → ⊥
      by n (itself other e) l = other refl
      by n (register {key} is k s) l = let r : _ = among registers s in none r.0 r.1 (subst (HasKey x.value) (sym r.2) k)
