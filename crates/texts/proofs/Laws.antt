-- What the crates above may rely on: every text is read back at its code, and what a rule says of a value stands at its code. Laws over
-- any list of strings, by induction on it, and one computed test for each table.
use mathlib.Core.Path.{◌≡◌, refl, sym, ap, ◌∙◌, subst}
use mathlib.Core.Bool.{Bool, true, false, cond, not, ◌&&◌}
use mathlib.Core.List.{List, [], ◌∷◌, ◌++◌, append_assoc}
use Prim.Native.Nat.{ℕ, zero, suc, ◌+◌, ◌-◌, ◌≤◌, ◌<◌}
use Prim.Native.String.{String}
use native.Mathlib.Nat.{add-zero, add-suc, suc-add, zero-add, add_assoc, le_of_suc-le-suc, not-suc-le-zero}
use native.Mathlib.Numerals.{add-one}
use native.Mathlib.Omega.{arith}
use lib.Dec.{T, eqb, ltb, leb, ltb→lt, leb→le, eqb→eq}
use lib.ListN.{length, get_or, take, drop, replicate, length-append, length-replicate, get_or-append, get_or-eq_default}
use lib.Seq.{get_or-append-add, drop-append_seam, take-append_seam}
use lib.Text.{eqt}
use borrow.Author.Tests.{ltb-true, ltb-false, eqb-true}
use Rattle.promise.proofs.Tests.{both_left, both_right, every, every-at}
use Rattle.registers.specs.Registers.{registers}
use Rattle.texts.specs.Names.{names}
use Rattle.texts.specs.Rules.{Text, Rule, plain, rules, fault_status, class_name}
use Rattle.texts.specs.Pool.{text_in, on_list, rule_at, description_of, describes, by_value, described, codes_of, name_room, texts, text_at, first_of, text_code, bytes, bytes_at, flat, starts_from, pool, starts, length_in}

-- Texts end to end.

first-start : (n : ℕ) (ss : List String) → get_or (starts_from n ss) 0 0 ≡ n
unfolding starts_from
first-start n [] = refl
first-start n (s ∷ ss) = refl

length_from : (n : ℕ) (ss : List String) (k : ℕ) → get_or (starts_from n ss) (suc k) 0 - get_or (starts_from n ss) k 0 ≡ length (bytes (get_or ss k ""))
unfolding starts_from bytes
length_from n [] zero = omega arith
length_from n [] (suc k) = omega arith
length_from n (s ∷ ss) zero = rw (first-start (n + length (bytes s)) ss) (omega arith)
length_from n (s ∷ ss) (suc k) = length_from (n + length (bytes s)) ss k

-- a text of a list is the part of the bytes from its start on that is as long as it is, whatever stands before
read-from : (p : List ℕ) (ss : List String) (k : ℕ)
    → take (length (bytes (get_or ss k ""))) (drop (get_or (starts_from (length p) ss) k 0) (p ++ flat ss)) ≡ bytes (get_or ss k "")
unfolding starts_from flat bytes
read-from p [] zero = refl
read-from p [] (suc k) = refl
read-from p (s ∷ ss) zero = rw (drop-append_seam p (bytes s ++ flat ss)) (take-append_seam (bytes s) (flat ss))
read-from p (s ∷ ss) (suc k) = rw (← append_assoc p (bytes s) (flat ss), ← length-append p (bytes s)) (read-from (p ++ bytes s) ss k)

-- the length of a text, by the starts
pub length_at : (code : ℕ) → length_in starts code ≡ length (bytes_at code)
unfolding length_in starts bytes_at text_at
length_at code = rw add-one (length_from 0 texts code)

-- every text read back from the pool is its string's bytes
pub read_back : (code : ℕ) → take (length_in starts code) (drop (get_or starts code 0) pool) ≡ bytes_at code
unfolding starts pool bytes_at text_at
read_back code = rw (length_at code) (read-from [] texts code)

-- The pool's table: starts that never decrease and end at the pool's length.

abbrev rises_to : ℕ → ℕ → List ℕ → Bool
rises_to end x [] = eqb x end
rises_to end x (y ∷ ys) = leb x y && rises_to end y ys

rises : T (rises_to (length pool) 0 starts)
unfolding pool starts starts_from flat bytes texts described by_value text_in names rules registers
rises = tt

rise_at : (end x : ℕ) (ys : List ℕ) → T (rises_to end x ys) → (k : ℕ) → k < length ys → get_or (x ∷ ys) k 0 ≤ get_or ys k 0
rise_at end x [] t k h = absurd (not-suc-le-zero h)
rise_at end x (y ∷ ys) t zero h = leb→le x y (both_left (leb x y) (rises_to end y ys) t)
rise_at end x (y ∷ ys) t (suc k) h = rise_at end y ys (both_right (leb x y) (rises_to end y ys) t) k (le_of_suc-le-suc h)

end-at : (end x : ℕ) (ys : List ℕ) → T (rises_to end x ys) → get_or (x ∷ ys) (length ys) 0 ≡ end
end-at end x [] t = eqb→eq x end t
end-at end x (y ∷ ys) t = end-at end y ys (both_right (leb x y) (rises_to end y ys) t)

-- no start is before the one before it, and the last is the pool's length
pub starts_rise : (k : ℕ) → suc k < length starts → get_or starts k 0 ≤ get_or starts (suc k) 0
starts_rise k h = rise_at (length pool) 0 starts rises (suc k) h

pub starts-end : get_or (0 ∷ starts) (length starts) 0 ≡ length pool
starts-end = end-at (length pool) 0 starts rises

-- Names and rules: what their lists could get wrong unseen.

abbrev absent : String → List String → Bool
absent s [] = true
absent s (t ∷ ts) = not (eqt s t) && absent s ts

abbrev distinct : List String → Bool
distinct [] = true
distinct (s ∷ ss) = absent s ss && distinct ss

-- no name stands twice, and all have room below the first code of a text
pub names-once : T (distinct names)
unfolding names
names-once = tt

names-fit : T (leb (length names) name_room)
unfolding names
names-fit = tt

-- texts by rising value, each value with a code, no text empty
abbrev rising : ℕ → ℕ → List Text → Bool
rising low codes [] = true
rising low codes (t ∷ ts) = leb low t.value && (ltb t.value codes && (not (eqt t.text "") && rising (suc t.value) codes ts))

-- a rule's number is its index; its values rise and have codes; a code is a bit of 64
abbrev sound_rule : ℕ → Rule → Bool
sound_rule n r = eqb r.number n && (leb r.codes 64 && rising 0 r.codes r.texts)

pub rules-sound : T (every sound_rule 0 rules)
unfolding rules registers
rules-sound = tt

-- 01 and #102: 46 abort statuses; 01: 35 classes
pub counts : (length fault_status.texts ≡ 46) × (length class_name.texts ≡ 35)
counts = (refl, refl)

-- a text is at most 255 bytes long, so that one byte can count it
abbrev short : ℕ → String → Bool
short n s = leb (length (bytes s)) 255

pub texts-short : T (every short 0 texts)
unfolding bytes texts described by_value text_in names rules registers
texts-short = tt

pub text-short : (code : ℕ) → length (bytes_at code) ≤ 255
unfolding bytes_at text_at bytes
text-short code = by-test (ltb code (length texts)) refl
  where
    by-test : (b : Bool) → ltb code (length texts) ≡ b → length (bytes (get_or texts code "")) ≤ 255
    by-test true e = leb→le (length (bytes (get_or texts code ""))) 255 (every-at short texts "" texts-short code (ltb-true code (length texts) e))
    by-test false e = rw (get_or-eq_default texts "" (ltb-false code (length texts) e)) (omega arith)

-- What a rule says of a value stands at its code.

below : (low codes v : ℕ) (ts : List Text) → T (rising low codes ts) → T (on_list ts v) → v < codes
unfolding on_list
below low codes v [] t e = absurd e
below low codes v (x ∷ xs) t e =
    let fits : T (ltb x.value codes && (not (eqt x.text "") && rising (suc x.value) codes xs)) = both_right (leb low x.value) _ t in
    by-test (eqb v x.value) refl (ltb→lt x.value codes (both_left (ltb x.value codes) _ fits)) e
    (below (suc x.value) codes v xs (both_right (not (eqt x.text "")) _ (both_right (ltb x.value codes) _ fits)))
  where
    by-test : (b : Bool) → eqb v x.value ≡ b → x.value < codes → T (cond b true (on_list xs v)) → (T (on_list xs v) → v < codes) → v < codes
    by-test true q l u rest = omega (arith, eqb-true v x.value q)
    by-test false q l u rest = rest u

length-by_value : (ts : List Text) (v n : ℕ) → length (by_value ts v n) ≡ n
unfolding by_value
length-by_value ts v zero = refl
length-by_value ts v (suc n) = ap suc (length-by_value ts (suc v) n)

by_value-at : (ts : List Text) (v n k : ℕ) → k < n → get_or (by_value ts v n) k "" ≡ text_in ts (v + k)
unfolding by_value
by_value-at ts v zero k h = absurd (not-suc-le-zero h)
by_value-at ts v (suc n) zero h = sym (ap (text_in ts) (add-zero v))
by_value-at ts v (suc n) (suc k) h = by_value-at ts (suc v) n k (le_of_suc-le-suc h) ∙ ap (text_in ts) (suc-add v k ∙ sym (add-suc v k))

described-at : (rs : List Rule) (n v : ℕ) → n < length rs → v < (get_or rs n plain).codes
    → get_or (described rs) (codes_of (take n rs) + v) "" ≡ text_in (get_or rs n plain).texts v
unfolding described codes_of
described-at [] n v l h = absurd (not-suc-le-zero l)
described-at (r ∷ rs) zero v l h =
    let own : List String = by_value r.texts 0 r.codes in
    let long : length own ≡ r.codes = length-by_value r.texts 0 r.codes in
    ap (λ k. get_or (own ++ described rs) k "") (zero-add v)
    ∙ get_or-append own (described rs) "" v (omega arith)
    ∙ by_value-at r.texts 0 r.codes v h
    ∙ ap (text_in r.texts) (zero-add v)
described-at (r ∷ rs) (suc n) v l h =
    let own : List String = by_value r.texts 0 r.codes in
    let long : length own ≡ r.codes = length-by_value r.texts 0 r.codes in
    let past : r.codes + codes_of (take n rs) + v ≡ length own + (codes_of (take n rs) + v) = omega arith in
    ap (λ k. get_or (own ++ described rs) k "") past
    ∙ get_or-append-add own (described rs) (codes_of (take n rs) + v) ""
    ∙ described-at rs n v (le_of_suc-le-suc l) h

-- the codes of texts start after the names' room
text_past_room : (k : ℕ) → text_at (name_room + k) ≡ get_or (described rules) k ""
unfolding text_at texts
text_past_room k =
    let front : List String = names ++ replicate (name_room - length names) "" in
    let fit : length names ≤ name_room = leb→le (length names) name_room names-fit in
    let long : length front ≡ name_room =
    omega (arith, length-append names (replicate (name_room - length names) ""), length-replicate {A = String} (name_room - length names) "") in
    ap (λ l. get_or l (name_room + k) "") (sym (append_assoc names (replicate (name_room - length names) "") (described rules)))
    ∙ ap (λ n. get_or (front ++ described rules) (n + k) "") (sym long)
    ∙ get_or-append-add front (described rules) k ""

-- a rule that describes something is one of the list, and the value has a code
some-rule : (n v : ℕ) → T (describes n v) → n < length rules
unfolding describes on_list rule_at
some-rule n v t = by-test (ltb n (length rules)) refl
  where
    by-test : (b : Bool) → ltb n (length rules) ≡ b → n < length rules
    by-test true e = ltb-true n (length rules) e
    by-test false e =
        absurd (subst (λ (r : Rule). T (on_list r.texts v)) (get_or-eq_default rules plain (ltb-false n (length rules) e)) t)

sound-at : (n : ℕ) → n < length rules → T (sound_rule n (rule_at n))
unfolding rule_at
sound-at n h = every-at sound_rule rules plain rules-sound n h

-- no rule has more than 64 codes
pub codes-small : (n : ℕ) → (rule_at n).codes ≤ 64
unfolding rule_at
codes-small n = by-test (ltb n (length rules)) refl
  where
    by-test : (b : Bool) → ltb n (length rules) ≡ b → (get_or rules n plain).codes ≤ 64
    by-test true e =
        let r : Rule = get_or rules n plain in
        let s : T (sound_rule n r) = every-at sound_rule rules plain rules-sound n (ltb-true n (length rules) e) in
        leb→le r.codes 64 (both_left (leb r.codes 64) _ (both_right (eqb r.number n) _ s))
    by-test false e = rw (get_or-eq_default rules plain (ltb-false n (length rules) e)) (omega arith)

pub describes-below : (n v : ℕ) → T (describes n v) → v < (rule_at n).codes
unfolding describes
describes-below n v t =
    let r : Rule = rule_at n in
    let s : T (leb r.codes 64 && rising 0 r.codes r.texts) = both_right (eqb r.number n) _ (sound-at n (some-rule n v t)) in
    below 0 r.codes v r.texts (both_right (leb r.codes 64) _ s) t

silent : (ts : List Text) (v : ℕ) → on_list ts v ≡ false → text_in ts v ≡ ""
unfolding on_list text_in
silent [] v e = refl
silent (x ∷ xs) v e = by-test (eqb v x.value) e (silent xs v)
  where
    by-test : (b : Bool) → cond b true (on_list xs v) ≡ false → (on_list xs v ≡ false → text_in xs v ≡ "") → cond b x.text (text_in xs v) ≡ ""
    by-test true u rest = absurd (subst T u tt)
    by-test false u rest = rest u

-- the text at the code of a rule's description of a value is that description; code 0, the empty text, where there is none
pub text-described : (rule value : ℕ) → text_at (text_code rule value) ≡ description_of rule value
unfolding text_code first_of description_of rule_at describes text_at texts names
text-described rule value = by-test (describes rule value) refl
  where
    by-test : (b : Bool) → describes rule value ≡ b → text_at (cond b (first_of rule + value) 0) ≡ description_of rule value
    by-test true e =
        let t : T (describes rule value) = subst T (sym e) tt in
        ap text_at (add_assoc name_room (codes_of (take rule rules)) value)
        ∙ text_past_room (codes_of (take rule rules) + value)
        ∙ described-at rules rule value (some-rule rule value t) (describes-below rule value t)
    by-test false e = sym (silent (rule_at rule).texts value e)

-- Lent starts of any length: a text that is not empty has its start, and the next, among them.

pub past-starts : (l : List ℕ) (k : ℕ) → length l ≤ k + 1 → length_in l k ≡ 0
unfolding length_in
past-starts l k h = omega (arith, get_or-eq_default l 0 h)

pub in_starts : (l : List ℕ) (k i : ℕ) → i < length_in l k → k < length l
in_starts l k i h = by-test (ltb k (length l)) refl
  where
    by-test : (b : Bool) → ltb k (length l) ≡ b → k < length l
    by-test true e = ltb-true k (length l) e
    by-test false e = absurd (omega (arith, past-starts l k (omega (arith, ltb-false k (length l) e))))
