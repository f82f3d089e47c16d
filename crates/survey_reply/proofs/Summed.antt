-- Where all counts were added, each total has grown by the counts of its own place: by induction over the counts, each of which changes one place.
use Prim.Native.Nat.{ℕ, suc, ◌+◌, ◌-◌, ◌≤◌, ◌<◌, ◌^◌}
use mathlib.Core.Bool.{Bool, true, false, false≢true, cond, ◌&&◌}
use mathlib.Core.List.{List, [], ◌∷◌}
use mathlib.Core.Path.{◌≡◌, refl, ◌∙◌}
use native.Mathlib.Omega.{arith}
use lib.Dec.{eqb, leb, ltb}
use lib.ListN.{length, get_or, set}
use lib.Seq.{get_or-set_other, get_or-set_same}
use borrow.Author.Tests.{eqb-false, eqb-true, le-leb, lt-leb, leb-false, leb-true, ltb-true}
use Rattle.survey_reply.specs.Replies.{classes, no_number}
use Rattle.survey_reply.specs.Sums.{add_count, add_each, add_run}

-- what a list of counts, from a place on, counts for a place
unfoldable pub count_at : ℕ → List ℕ → ℕ → ℕ
count_at from counts place = cond (leb from place) (get_or counts (place - from) 0) 0

-- both parts of a test that passed
both_hold : (a b : Bool) → (a && b) ≡ true → (a ≡ true) × (b ≡ true)
both_hold true b e = (refl, e)
both_hold false b e = absurd (false≢true e)

-- one count changes its own place alone
one_summed : (totals : List ℕ) (place count : ℕ) → (add_count totals place count).0 ≡ true → (p : ℕ)
    → get_or (add_count totals place count).1 p 0 ≡ get_or totals p 0 + cond (eqb p place) count 0
unfolding add_count
one_summed totals place count e p = by-test (ltb place (length totals)) refl (ltb (get_or totals place 0 + count) (2 ^ 64)) e
  where
    sum : ℕ
    sum = get_or totals place 0 + count

    outcome : Bool → Bool × List ℕ
    outcome b = cond b (true, set totals place sum) (false, totals)

    stored : place < length totals → (b : Bool) → eqb p place ≡ b → get_or (set totals place sum) p 0 ≡ get_or totals p 0 + cond b count 0
    stored l true is = let same : p ≡ place = eqb-true p place is in rw (same, get_or-set_same totals place sum 0 l)
    stored l false is = get_or-set_other totals place p sum 0 (eqb-false p place is) ∙ omega arith

    by-test : (b : Bool) → ltb place (length totals) ≡ b → (d : Bool) → (outcome (b && d)).0 ≡ true
        → get_or (outcome (b && d)).1 p 0 ≡ get_or totals p 0 + cond (eqb p place) count 0
    by-test true l true u = stored (ltb-true place (length totals) l) (eqb p place) refl
    by-test true l false u = absurd (false≢true u)
    by-test false l d u = absurd (false≢true u)

-- the count of a place in a longer list: that of its first, or one of the rest
count-first : (place c : ℕ) (cs : List ℕ) (p : ℕ) → cond (eqb p place) c 0 + count_at (place + 1) cs p ≡ count_at place (c ∷ cs) p
unfolding count_at
count-first place c cs p = by_order (leb place p) refl (eqb p place) refl
  where
    by_order : (a : Bool) → leb place p ≡ a → (b : Bool) → eqb p place ≡ b
        → cond b c 0 + cond (leb (place + 1) p) (get_or cs (p - (place + 1)) 0) 0 ≡ cond a (get_or (c ∷ cs) (p - place) 0) 0
    by_order true l true e =
        let is : p ≡ place = eqb-true p place e in
        let here : p - place ≡ 0 = omega arith in
        rw (lt-leb (place + 1) p (omega arith), here) (omega arith)
    by_order true l false e =
        let h : place ≤ p = leb-true place p l in
        let n = eqb-false p place e in
        let later : place + 1 ≤ p = omega arith in
        let one : p - place ≡ suc (p - (place + 1)) = omega arith in
        rw (le-leb (place + 1) p later, one) (omega arith)
    by_order false l true e =
        let h : p < place = leb-false place p l in
        let is : p ≡ place = eqb-true p place e in
        absurd (omega arith)
    by_order false l false e =
        let h : p < place = leb-false place p l in
        rw (lt-leb (place + 1) p (omega arith))

none-counted : (b : Bool) → ◌≡◌ {A = ℕ} (cond b 0 0) 0
none-counted true = refl
none-counted false = refl

each_summed : (totals : List ℕ) (place : ℕ) (counts : List ℕ) → (add_each totals place counts).0 ≡ true → (p : ℕ)
    → get_or (add_each totals place counts).1 p 0 ≡ get_or totals p 0 + count_at place counts p
unfolding add_each count_at
each_summed totals place [] e p = omega (arith, none-counted (leb place p))
each_summed totals place (c ∷ cs) e p =
    let first : Bool × List ℕ = add_count totals place c in
    let hold = both_hold first.0 (add_each first.1 (place + 1) cs).0 e in
    each_summed first.1 (place + 1) cs hold.1 p
    ∙ omega (arith, one_summed totals place c hold.0 p, count-first place c cs p)

-- a run that was added: each total has grown by what the run counted for its place
pub run_summed : (totals counts refused : List ℕ) (none : ℕ) → (add_run totals counts refused none).0 ≡ true → (p : ℕ)
    → get_or (add_run totals counts refused none).1 p 0 ≡ get_or totals p 0 + (count_at 0 counts p + count_at classes refused p + cond (eqb p no_number) none 0)
unfolding add_run
run_summed totals counts refused none e p =
    let a : Bool × List ℕ = add_each totals 0 counts in
    let b : Bool × List ℕ = add_each a.1 classes refused in
    let c : Bool × List ℕ = add_count b.1 no_number none in
    let hold = both_hold (a.0 && b.0) c.0 e in
    let front = both_hold a.0 b.0 hold.0 in
    one_summed b.1 no_number none hold.1 p
    ∙ omega (arith, each_summed a.1 classes refused front.1 p, each_summed totals 0 counts front.0 p)
