-- The counts of a list, place by place, and what one value more does to them: by induction over the list, once for every test.
use Prim.Native.Nat.{ℕ, zero, suc, ◌+◌, ◌^◌, ◌≤◌, ◌<◌}
use mathlib.Core.Bool.{Bool, true, false, cond}
use mathlib.Core.List.{List, [], ◌∷◌}
use mathlib.Core.Path.{◌≡◌, refl, sym, ap, ◌∙◌}
use native.Mathlib.Nat.{zero-add}
use native.Mathlib.Numerals.{add-one}
use native.Mathlib.Omega.{arith}
use lib.Dec.{eqb}
use lib.ListN.{length, get_or, take, drop, set, replicate, length-set, length-replicate, get_or-replicate}
use lib.Seq.{ext_get_or, get_or-set_same, get_or-set_other, drop-cons, drop-length}
use borrow.Author.Tests.{eqb-true, eqb-false}
use Rattle.promise.proofs.Tests.{tab}
use Rattle.survey.specs.Surveys.{how_many, counts}
use Rattle.survey.specs.Tallies.{Noted, Roomy}

-- what a value adds to a count by its test
abbrev pub one : Bool → ℕ
one b = cond b 1 0

one_le : (b : Bool) → one b ≤ 1
one_le true = omega arith
one_le false = omega arith

module _ (is : ℕ → ℕ → Bool) where
  pub counts-length : (k n : ℕ) (vs : List ℕ) → length (counts is k n vs) ≡ n
  unfolding counts
  counts-length k zero vs = refl
  counts-length k (suc n) vs = ap suc (counts-length (suc k) n vs)

  pub counts-at : (k n : ℕ) (vs : List ℕ) (p : ℕ) → p < n → get_or (counts is k n vs) p 0 ≡ how_many (is (k + p)) vs
  unfolding counts
  counts-at k zero vs p h = absurd (omega arith)
  counts-at k (suc n) vs zero h = ap (λ (q : ℕ). how_many (is q) vs) (omega arith)
  counts-at k (suc n) vs (suc p) h = counts-at (suc k) n vs p (omega arith) ∙ ap (λ (q : ℕ). how_many (is q) vs) (omega arith)

  -- no count is larger than the list is long
  pub count_le : (k : ℕ) (vs : List ℕ) → how_many (is k) vs ≤ length vs
  unfolding how_many
  count_le k [] = omega arith
  count_le k (v ∷ vs) = omega (arith, count_le k vs, one_le (is k v))

  -- Noting a value.

  -- one whose test holds at one place alone adds one there
  pub noted_there : (v : ℕ) (t t' : List ℕ) (p : ℕ) → p < length t → ((q : ℕ) → q < length t → is q v ≡ eqb p q) → t' ≡ set t p (get_or t p 0 + 1) → Noted is v t t'
  noted_there v t t' p h e s =
      record {
        places = ap length s ∙ length-set t p (get_or t p 0 + 1);
        each = λ q l. ap (λ (u : List ℕ). get_or u q 0) s ∙ by q (eqb p q) refl ∙ ap (λ (b : Bool). get_or t q 0 + one b) (sym (e q l));
      }
    where
      by : (q : ℕ) (b : Bool) → eqb p q ≡ b → get_or (set t p (get_or t p 0 + 1)) q 0 ≡ get_or t q 0 + one b
      by q true f = let g : p ≡ q = eqb-true p q f in rw (← g) (get_or-set_same t p (get_or t p 0 + 1) 0 h)
      by q false f = get_or-set_other t p q (get_or t p 0 + 1) 0 (λ g. eqb-false p q f (sym g)) ∙ omega arith

  -- one whose test holds at no place changes nothing
  pub noted_nowhere : (v : ℕ) (t : List ℕ) → ((p : ℕ) → p < length t → is p v ≡ false) → Noted is v t t
  noted_nowhere v t e = record { places = refl; each = λ p h. sym (ap (λ (b : Bool). get_or t p 0 + one b) (e p h) ∙ omega arith) }

  -- The loop's fact of a table after i values: no count is past them, and with those that are left each is the whole count.

  abbrev pub Counted : List ℕ → List ℕ → ℕ → Type 0
  Counted vs t i = (p : ℕ) → p < length t → (get_or t p 0 ≤ i) × (get_or t p 0 + how_many (is p) (drop i vs) ≡ how_many (is p) vs)

  pub counted_none : (n : ℕ) (vs t : List ℕ) → t ≡ replicate n 0 → Counted vs t 0
  counted_none n vs t e p h =
      let l : length t ≡ n = ap length e ∙ length-replicate n 0 in
      let z : get_or t p 0 ≡ 0 = ap (λ (s : List ℕ). get_or s p 0) e ∙ get_or-replicate n p 0 0 (omega arith) in
      (omega arith, omega arith)

  count-more : (k : ℕ) (vs : List ℕ) (i : ℕ) → i < length vs → how_many (is k) (drop i vs) ≡ one (is k (get_or vs i 0)) + how_many (is k) (drop (i + 1) vs)
  unfolding how_many
  count-more k vs i h = rw (add-one, drop-cons vs i 0) refl

  pub counted-more : (vs t t' : List ℕ) (i : ℕ) → i < length vs → Noted is (get_or vs i 0) t t' → Counted vs t i → Counted vs t' (i + 1)
  counted-more vs t t' i h n f p hp =
      let hq : p < length t = omega (arith, n.places) in
      let a = n.each p hq in
      let d = count-more p vs i h in
      let g = f p hq in
      let o = one_le (is p (get_or vs i 0)) in
      (omega arith, omega arith)

  pub counted-done : (n : ℕ) (vs t : List ℕ) (i : ℕ) → i ≡ length vs → length t ≡ n → Counted vs t i → t ≡ counts is 0 n vs
  unfolding how_many
  counted-done n vs t i e l f =
      ext_get_or 0 t (counts is 0 n vs) (l ∙ sym (counts-length 0 n vs)) (λ p h. at p h ∙ sym (counts-at 0 n vs p (omega (arith, l)) ∙ ap (λ (q : ℕ). how_many (is q) vs) (zero-add p)))
    where
      at : (p : ℕ) → p < length t → get_or t p 0 ≡ how_many (is p) vs
      at p h = let g = rw (e, drop-length) at (f p h).1 in omega arith

  pub counted-roomy : (vs t : List ℕ) (i : ℕ) → i < length vs → length vs < 2 ^ 32 → Counted vs t i → Roomy t
  counted-roomy vs t i h r f p hp = let g = (f p hp).0 in omega arith

-- so many entries of a list, each read at its place, are its front
pub reads-take : (l : List ℕ) (i n : ℕ) → i + n ≤ length l → tab (λ (k : ℕ). get_or l k 0) i n ≡ take n (drop i l)
reads-take l i zero h = refl
reads-take l i (suc n) h = rw (drop-cons l i 0 (omega arith)) (ap (λ (t : List ℕ). get_or l i 0 ∷ t) (reads-take l (suc i) n (omega arith)))
