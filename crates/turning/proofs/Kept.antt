-- Which rows of a table apply depends on the tests that are asked alone: of a line's conditions one is asked where those before it are met. One law over any lines.
use mathlib.Core.Path.{◌≡◌, refl, sym, ap, ap₂, ◌∙◌, subst}
use mathlib.Core.Bool.{Bool, true, false, cond, not, ◌&&◌}
use mathlib.Core.List.Memᴰ
use mathlib.Core.List.{List, [], ◌∷◌, ◌++◌, map, Memᴰ}
use lib.Dec.{T}
use Rattle.promise.proofs.Tests.{both_left, both_right}
use Rattle.records.specs.declared.Row.{Row}
use Rattle.tables.specs.Shape.{Test, Condition, Line}
use Rattle.tables.specs.Applying.{met, keep}
use Rattle.tables.proofs.Laws.{known, given, knows_all, knows_lines, given_is}

abbrev pub is_met : (Test → Bool) → Condition → Bool
is_met f c = cond c.holds (f c.test) (not (f c.test))

abbrev pub asked_in : (Test → Bool) → List Condition → List Test
asked_in f [] = []
asked_in f (c ∷ cs) = c.test ∷ cond (is_met f c) (asked_in f cs) []

abbrev pub asked : (Test → Bool) → List Line → List Test
asked f [] = []
asked f (l ∷ ls) = asked_in f l.conditions ++ asked f ls

-- Where the tests that are asked have the same answers, the same rows apply.
module _ (f g : Test → Bool) where
  abbrev Agree : List Test → Type 0
  Agree ts = (t : Test) → Memᴰ t ts → f t ≡ g t

  both-same : (a x y : Bool) → (a ≡ true → x ≡ y) → (a && x) ≡ (a && y)
  both-same true x y h = h refl
  both-same false x y h = refl

  met-same : (cs : List Condition) → Agree (asked_in f cs) → met f cs ≡ met g cs
  met-same [] h = refl
  met-same (c ∷ cs) h =
      both-same (is_met f c) (met f cs) (met g cs)
      (λ e. met-same cs (λ t m. h t (Memᴰ.tail (subst (λ (b : Bool). Memᴰ t (cond b (asked_in f cs) [])) (sym e) m))))
      ∙ ap (λ (b : Bool). cond c.holds b (not b) && met g cs) (h c.test (Memᴰ.head refl))

  pub keep_same : (ls : List Line) → Agree (asked f ls) → keep f ls ≡ keep g ls
  keep_same [] h = refl
  keep_same (l ∷ ls) h =
      ap₂ (λ (b : Bool) (rs : List Row). cond b (l.row ∷ rs) rs)
      (met-same l.conditions (λ t m. h t (Memᴰ.append_left (asked f ls) m)))
      (keep_same ls (λ t m. h t (Memᴰ.append_right (asked_in f l.conditions) m)))

-- What is asked, at known answers of the tests.
module _ (f : Test → Bool) (ts : List Test) where
  asked_in_lem : (cs : List Condition) → T (knows_all ts cs) → asked_in (given ts (map f ts)) cs ≡ asked_in f cs
  asked_in_lem [] h = refl
  asked_in_lem (c ∷ cs) h =
      ap₂ (λ (b : Bool) (us : List Test). c.test ∷ cond (cond c.holds b (not b)) us [])
      (given_is f ts c.test (both_left (known ts c.test) (knows_all ts cs) h))
      (asked_in_lem cs (both_right (known ts c.test) (knows_all ts cs) h))

  pub asked_is : (ls : List Line) → T (knows_lines ts ls) → asked (given ts (map f ts)) ls ≡ asked f ls
  asked_is [] h = refl
  asked_is (l ∷ ls) h =
      ap₂ (λ (us vs : List Test). us ++ vs) (asked_in_lem l.conditions (both_left (knows_all ts l.conditions) (knows_lines ts ls) h))
      (asked_is ls (both_right (knows_all ts l.conditions) (knows_lines ts ls) h))
