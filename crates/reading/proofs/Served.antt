-- The layout that serves a value's class is the one that the decoder looks up, since no class is served twice.
use Rattle.std.proofs.Common.{◌≡◌, ℕ, suc, ◌≤◌, Bool, true, false, cond, T, eqb, List, [], ◌∷◌, sym, refl, ap, ◌∙◌, subst, zero-add, arith, eqb→eq}
use mathlib.Core.List.{Memᴰ}
use Rattle.promise.specs.Member.{member}
use Rattle.promise.proofs.Tests.{true_is, is_true, from_at, member_of, of-member}
use Rattle.texts.specs.Rules.{class_name}
use Rattle.texts.specs.Pool.{describes}
use Rattle.refusals.specs.Refusals.{carrying}
use Rattle.refusals.specs.declared.Reason.TheVariants.{InvalidEc}
use Rattle.records.proofs.Laws.{field_lt}
use Rattle.tables.specs.Tables.{Served, layouts}
use Rattle.tables.proofs.Sound.{served, class_sound, class-sound}
use Rattle.esr.specs.Decode.{refused, table_answer, class_of, iss_of, class_answer}
use Rattle.reading.specs.Reading.{Classed}
use Rattle.reading.proofs.HasBits.{bits_is, bits-of}

-- a layout of the list that serves the class is counted
counted : (c : ℕ) (s : Served) (ss : List Served) → Memᴰ s ss → T (member c s.classes) → 1 ≤ served ss c
counted c s [] m t = elim m [ ]
counted c s (x ∷ xs) (Memᴰ.head e) t =
    subst (λ (b : Bool). 1 ≤ cond b (suc (served xs c)) (served xs c))
    (sym (true_is (member c x.classes) (subst (λ (y : Served). T (member c y.classes)) e t))) (omega arith)
counted c s (x ∷ xs) (Memᴰ.tail m) t = by (member c x.classes) (counted c s xs m t)
  where
    by : (b : Bool) → 1 ≤ served xs c → 1 ≤ cond b (suc (served xs c)) (served xs c)
    by true h = omega arith
    by false h = h

-- what the decoder looks up in a list of layouts: one of them that serves the class, and its table answers; or none does
pub data Looked (esr : ℕ) (ss : List Served) : Type 0 where
  none : served ss (class_of esr) ≡ 0 → class_answer ss esr ≡ refused (carrying InvalidEc (class_of esr)) → Looked esr ss
  one : (s : Served) → Memᴰ s ss → T (member (class_of esr) s.classes) → class_answer ss esr ≡ table_answer s.table esr (iss_of esr) → Looked esr ss

looked : (esr : ℕ) (ss : List Served) → Looked esr ss
unfolding class_answer
looked esr [] = none refl refl
looked esr (s ∷ ss) = by (member (class_of esr) s.classes) refl (looked esr ss)
  where
    answer : (b : Bool) → member (class_of esr) s.classes ≡ b → class_answer (s ∷ ss) esr ≡ cond b (table_answer s.table esr (iss_of esr)) (class_answer ss esr)
    answer b e = ap (λ (c : Bool). cond c (table_answer s.table esr (iss_of esr)) (class_answer ss esr)) e

    count : (b : Bool) → member (class_of esr) s.classes ≡ b → served (s ∷ ss) (class_of esr) ≡ cond b (suc (served ss (class_of esr))) (served ss (class_of esr))
    count b e = ap (λ (c : Bool). cond c (suc (served ss (class_of esr))) (served ss (class_of esr))) e

    by : (b : Bool) → member (class_of esr) s.classes ≡ b → Looked esr ss → Looked esr (s ∷ ss)
    by true e rest = one s (Memᴰ.head refl) (is_true e) (answer true e)
    by false e (none n q) = none (count false e ∙ n) (answer false e ∙ q)
    by false e (one x m t q) = one x (Memᴰ.tail m) t (answer false e ∙ q)

-- no two layouts of a list in which the class is served once serve it
one-served : (c : ℕ) (a b : Served) (ss : List Served) → served ss c ≤ 1 → Memᴰ a ss → Memᴰ b ss → T (member c a.classes) → T (member c b.classes) → a ≡ b
one-served c a b [] h m _ s t = elim m [ ]
one-served c a b (x ∷ xs) h (Memᴰ.head p) (Memᴰ.head q) s t = p ∙ sym q
one-served c a b (x ∷ xs) h (Memᴰ.head p) (Memᴰ.tail n) s t =
    absurd (omega (arith, counted c b xs n t, subst (λ (k : Bool). cond k (suc (served xs c)) (served xs c) ≤ 1) (true_is (member c x.classes) (subst (λ (y : Served). T (member c y.classes)) p s)) h))
one-served c a b (x ∷ xs) h (Memᴰ.tail m) (Memᴰ.head q) s t =
    absurd (omega (arith, counted c a xs m s, subst (λ (k : Bool). cond k (suc (served xs c)) (served xs c) ≤ 1) (true_is (member c x.classes) (subst (λ (y : Served). T (member c y.classes)) q t)) h))
one-served c a b (x ∷ xs) h (Memᴰ.tail m) (Memᴰ.tail n) s t = one-served c a b xs (by (member c x.classes) h) m n s t
  where
    by : (k : Bool) → cond k (suc (served xs c)) (served xs c) ≤ 1 → served xs c ≤ 1
    by true h = omega arith
    by false h = h

-- what the computed test of the classes says of one class
named : (a : Bool) (n : ℕ) → T (cond a (eqb n 1) (eqb n 0)) → (n ≤ 1) × (1 ≤ n → T a) × (T a → 1 ≤ n)
named true n t = let e : n ≡ 1 = eqb→eq n 1 t in (omega arith, λ h. tt, λ h. omega arith)
named false n t = let e : n ≡ 0 = eqb→eq n 0 t in (omega arith, λ h. absurd (omega arith), λ h. absurd h)

-- A value's class is served by one layout of 01, and then it has a name, and the decoder's answer is that layout's; or no layout serves it, it has
-- no name, and the decoder refuses it.
pub data ClassOf (esr : ℕ) : Type 0 where
  unserved : ((s : Served) → Classed esr s → ⊥) → (T (describes class_name.number (class_of esr)) → ⊥)
      → class_answer layouts esr ≡ refused (carrying InvalidEc (class_of esr)) → ClassOf esr
  served_by : (s : Served) → Classed esr s → ((t : Served) → Classed esr t → t ≡ s) → T (describes class_name.number (class_of esr))
      → class_answer layouts esr ≡ table_answer s.table esr (iss_of esr) → ClassOf esr

module _ (esr : ℕ) where
  sound-at : (served layouts (class_of esr) ≤ 1) × (1 ≤ served layouts (class_of esr) → T (describes class_name.number (class_of esr))) × (T (describes class_name.number (class_of esr)) → 1 ≤ served layouts (class_of esr))
  sound-at =
      named (describes class_name.number (class_of esr)) (served layouts (class_of esr))
      (subst (λ (n : ℕ). T (class_sound n)) (zero-add (class_of esr)) (from_at class_sound 0 64 (class_of esr) class-sound (field_lt esr 26 6)))

  serves : (s : Served) → Classed esr s → T (member (class_of esr) s.classes)
  serves s k = subst (λ (n : ℕ). T (member n s.classes)) (bits_is k.has) (member_of k.class s.classes k.serves)

  pub class-of : ClassOf esr
  class-of = by (looked esr layouts)
    where
      by : Looked esr layouts → ClassOf esr
      by (none n q) =
          unserved (λ s k. omega (arith, counted (class_of esr) s layouts k.layout (serves s k), n)) (λ t. omega (arith, sound-at.2 t, n)) q
      by (one s m t q) =
          served_by s (record { class = class_of esr; has = bits-of esr 26 6; serves = of-member (class_of esr) s.classes t; layout = m })
          (λ x k. one-served (class_of esr) x s layouts sound-at.0 k.layout m (serves x k) t)
          (sound-at.1 (counted (class_of esr) s layouts m t)) q
