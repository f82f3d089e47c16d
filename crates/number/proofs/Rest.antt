-- What the promises of #107 come to: where the number ends, what it takes, which rest is refused, and that an input without a stop is read as before. Each is
-- an induction over the bytes, or the same said of the number before the stop.
use Rattle.std.proofs.Common.{◌≡◌, ℕ, suc, Bool, true, false, cond, not, ◌&&◌, T, ◌⊎◌, List, [], ◌∷◌, ◌++◌, length, get_or, take, sym, refl, ap, ◌∙◌, inl, inr, ⊎_elim, append-nil, subst}
use Rattle.std.specs.Prelude.{Ok, Err}
use mathlib.Core.Bool.{false≢true, and-false}
use Rattle.number.proofs.Laws.{either, by-test, un_not}
use Rattle.number.proofs.Stops.{steps_before}
use Rattle.number.proofs.Theorems.{accepted, accepts, refused-zero}
use Rattle.number.specs.Numbers.{refused, starts_with, number_in, number_of}
use Rattle.number.specs.Positional.{StandsFor, prefix_of}
use Rattle.number.specs.Rest.{is_stop, before_stop, rest_of, no_stop, are_stops, taking, read_of, taken_in, bad_rest, whole_of}
use Rattle.number.specs.Steps.{start, steps_of, finish_before_of}
use Rattle.number.specs.declared.Number.{Number}
use Rattle.number.specs.declared.NumberRead.{NumberRead}
use Rattle.promise.proofs.Tests.{both_left, true_is}
use Rattle.refusals.specs.Refusals.{bare, no_refusal, passed}
use Rattle.refusals.specs.declared.Reason.TheVariants.{Empty}
use Rattle.refusals.specs.declared.Refusal.{Refusal}

-- Where the number ends.

-- the bytes before the first stop and the rest are the input
pub before-rest : (s : List ℕ) → before_stop s ++ rest_of s ≡ s
unfolding before_stop rest_of
before-rest [] = refl
before-rest (b ∷ s) =
    by-test (λ (t : Bool). cond t [] (b ∷ before_stop s) ++ cond t (b ∷ s) (rest_of s) ≡ b ∷ s) (is_stop b)
    (λ e. refl)
    (λ e. ap (λ (r : List ℕ). b ∷ r) (before-rest s))

pub before-no_stop : (s : List ℕ) → T (no_stop (before_stop s))
unfolding before_stop no_stop
before-no_stop [] = tt
before-no_stop (b ∷ s) =
    by-test (λ (t : Bool). is_stop b ≡ t → T (no_stop (cond t [] (b ∷ before_stop s)))) (is_stop b)
    (λ e f. tt)
    (λ e f. rw f (before-no_stop s))
    refl

before-append : (s t : List ℕ) (b : ℕ) → is_stop b ≡ true → before_stop (s ++ (b ∷ t)) ≡ before_stop s
unfolding before_stop
before-append [] t b e = simp e
before-append (c ∷ s) t b e = ap (λ (r : List ℕ). cond (is_stop c) [] (c ∷ r)) (before-append s t b e)

-- the first bytes of the input, as many as stand before the stop, and the byte behind them
take-before : (s : List ℕ) → take (length (before_stop s)) s ≡ before_stop s
unfolding before_stop
take-before [] = refl
take-before (b ∷ s) =
    by-test (λ (t : Bool). take (length (cond t [] (b ∷ before_stop s))) (b ∷ s) ≡ cond t [] (b ∷ before_stop s)) (is_stop b)
    (λ e. refl)
    (λ e. ap (λ (r : List ℕ). b ∷ r) (take-before s))

stop-behind : (s : List ℕ) → (length (before_stop s) ≡ length s) ⊎ (is_stop (get_or s (length (before_stop s)) 0) ≡ true)
unfolding before_stop
stop-behind [] = inl refl
stop-behind (b ∷ s) =
    by-test (λ (t : Bool). is_stop b ≡ t
    → (length (cond t [] (b ∷ before_stop s)) ≡ length (b ∷ s)) ⊎ (is_stop (get_or (b ∷ s) (length (cond t [] (b ∷ before_stop s))) 0) ≡ true)) (is_stop b)
    (λ e f. inr f)
    (λ e f. ⊎_elim (λ h. inl (ap suc h)) (λ h. inr h) (stop-behind s))
    refl

-- an answer is the number that stands before the stop, not refused, and has its bytes
by-taken : (n : Number) (k : ℕ) {r : NumberRead} → taking n k ≡ Ok r
    → (passed n.refusal ≡ true) × (r ≡ record { value = n.value; taken = k })
by-taken n k {r} e =
    by-test (λ (t : Bool). passed n.refusal ≡ t → (t ≡ true) × (r ≡ record { value = n.value; taken = k })) (passed n.refusal)
    (λ f g. (refl, cc (simp g at e)))
    (λ f g. absurd (cc (simp g at e)))
    refl

pub read_taken : (s : List ℕ) {r : NumberRead} → read_of s ≡ Ok r → r.taken ≡ length (before_stop s)
unfolding read_of
read_taken s e = ap (λ (r : NumberRead). r.taken) (by-taken (number_of (before_stop s)) (length (before_stop s)) e).1

-- accepted: the bytes taken are those before the first stop, and the byte behind them is a stop, or there is none
pub taken-before : (s : List ℕ) {r : NumberRead} → read_of s ≡ Ok r
    → (take r.taken s ≡ before_stop s) × ((r.taken ≡ length s) ⊎ (is_stop (get_or s r.taken 0) ≡ true))
taken-before s e = rw (read_taken s e) (take-before s, stop-behind s)

-- read byte by byte as they come, the answer is the same: a caller counts the bytes before the stop by its steps (steps-behind)
pub steps_read : (s : List ℕ) → taking (finish_before_of (steps_of start s)) (length (before_stop s)) ≡ read_of s
unfolding read_of
steps_read s = ap (λ (n : Number). taking n (length (before_stop s))) (steps_before s)

-- Refusals.

-- a number at the front of an input is accepted, or it is refused with a number and takes no bytes
pub read_refused_zero : (s : List ℕ)
    → ((r : NumberRead) × (read_of s ≡ Ok r))
    ⊎ ((f : Refusal) × (read_of s ≡ Err f) × (refused f.reason ≡ true) × (taken_in (read_of s) ≡ 0))
unfolding read_of
read_refused_zero s =
    let n : Number = number_of (before_stop s) in
    let k : ℕ = length (before_stop s) in
    ⊎_elim (λ e. inl (record { value = n.value; taken = k }, (let p : passed n.refusal ≡ true = ap passed e in simp p)))
    (λ r.
    let same : taking n k ≡ Err n.refusal = simp (un_not (passed n.refusal) r.0) in
    inr (n.refusal, same, r.0, ap taken_in same))
    (refused-zero (before_stop s))

-- a whole input is accepted, or it is refused with a number and has the value 0
abbrev RefusedZero : Number → Type 0
RefusedZero n = (n.refusal ≡ no_refusal) ⊎ ((refused n.refusal.reason ≡ true) × (n.value ≡ 0))

pub whole_refused_zero : (s : List ℕ) → ((whole_of s).refusal ≡ no_refusal) ⊎ ((refused (whole_of s).refusal.reason ≡ true) × ((whole_of s).value ≡ 0))
unfolding whole_of
whole_refused_zero s =
    either RefusedZero (passed (number_of (before_stop s)).refusal && not (are_stops (rest_of s))) (inr (refl, refl)) (refused-zero (before_stop s))

prefix_before : (hex : Bool) → before_stop (prefix_of hex) ≡ prefix_of hex
unfolding before_stop is_stop
prefix_before true = refl
prefix_before false = refl

prefix_empty : (hex : Bool) → number_of (prefix_of hex) ≡ record { value = 0; refusal = bare Empty }
unfolding number_of number_in starts_with
prefix_empty true = refl
prefix_empty false = refl

-- "Input that begins with such a byte is refused as Empty, as is "0x" followed by one"
pub stop-first : (hex : Bool) (b : ℕ) (s : List ℕ) → is_stop b ≡ true
    → (read_of (prefix_of hex ++ (b ∷ s)) ≡ Err (bare Empty))
    × (whole_of (prefix_of hex ++ (b ∷ s)) ≡ record { value = 0; refusal = bare Empty })
unfolding read_of whole_of
stop-first hex b s e = rw (before-append (prefix_of hex) s b e, prefix_before hex, prefix_empty hex) (refl, refl)

-- Which inputs are accepted.

-- a number at the front of an input is accepted just where the bytes before the first stop stand for a value
pub read-accepted : (s : List ℕ) {r : NumberRead} → read_of s ≡ Ok r → StandsFor (before_stop s) r.value
unfolding read_of
read-accepted s {r} e =
    let n : Number = number_of (before_stop s) in
    let t = by-taken n (length (before_stop s)) e in
    subst (λ v. StandsFor (before_stop s) v) (sym (ap (λ (q : NumberRead). q.value) t.1))
    (accepted (before_stop s)
    (⊎_elim (λ h. h) (λ h. absurd (false≢true (sym (un_not (passed n.refusal) h.0) ∙ t.0))) (refused-zero (before_stop s))))

pub read-accepts : (s : List ℕ) (v : ℕ) → StandsFor (before_stop s) v
    → read_of s ≡ Ok (record { value = v; taken = length (before_stop s) })
unfolding read_of
read-accepts s v w = ap (λ (n : Number). taking n (length (before_stop s))) (accepts (before_stop s) v w)

whole_same : (s : List ℕ) → are_stops (rest_of s) ≡ true → whole_of s ≡ number_of (before_stop s)
unfolding whole_of
whole_same s e = simp (e, and-false)

never : (s : List ℕ) → are_stops (rest_of s) ≡ false → (whole_of s).refusal ≡ no_refusal → ⊥
unfolding whole_of
never s e =
    by-test (λ (u : Bool). passed (number_of (before_stop s)).refusal ≡ u → (cond (u && not (are_stops (rest_of s))) bad_rest (number_of (before_stop s))).refusal ≡ no_refusal → ⊥)
    (passed (number_of (before_stop s)).refusal)
    (λ f g h. false≢true (ap passed (rw e at h)))
    (λ f g h. false≢true (sym g ∙ ap passed h))
    refl

-- a whole input just where they do, and stops alone stand behind them
pub whole-accepted : (s : List ℕ) → (whole_of s).refusal ≡ no_refusal → StandsFor (before_stop s) (whole_of s).value × T (are_stops (rest_of s))
unfolding whole_of
whole-accepted s e =
    by-test (λ (u : Bool). are_stops (rest_of s) ≡ u → StandsFor (before_stop s) (whole_of s).value × T u) (are_stops (rest_of s))
    (λ f g. (rw (whole_same s g) (accepted (before_stop s) (rw (whole_same s g) at e)), tt))
    (λ f g. absurd (never s g e))
    refl

pub whole-accepts : (s : List ℕ) (v : ℕ) → StandsFor (before_stop s) v → T (are_stops (rest_of s)) → whole_of s ≡ record { value = v; refusal = no_refusal }
unfolding whole_of
whole-accepts s v w t = whole_same s (true_is (are_stops (rest_of s)) t) ∙ accepts (before_stop s) v w

-- What changes nothing.

no_stop-before : (s : List ℕ) → T (no_stop s) → before_stop s ≡ s
unfolding before_stop no_stop
no_stop-before [] t = refl
no_stop-before (b ∷ s) t =
    by-test (λ (u : Bool). T (not u && no_stop s) → cond u [] (b ∷ before_stop s) ≡ b ∷ s) (is_stop b)
    (λ e f. absurd f)
    (λ e f. ap (λ (r : List ℕ). b ∷ r) (no_stop-before s f))
    t

no_stop-rest : (s : List ℕ) → T (no_stop s) → rest_of s ≡ []
unfolding rest_of no_stop
no_stop-rest [] t = refl
no_stop-rest (b ∷ s) t =
    by-test (λ (u : Bool). T (not u && no_stop s) → cond u (b ∷ s) (rest_of s) ≡ []) (is_stop b) (λ e f. absurd f) (λ e f. no_stop-rest s f) t

-- without a stop the whole input is read as 01 has it: nothing that was proved of number_of or compared with the Rust is lost
pub no_stop-old : (s : List ℕ) → T (no_stop s) → (whole_of s ≡ number_of s) × (read_of s ≡ taking (number_of s) (length s))
unfolding whole_of read_of are_stops
no_stop-old s t = rw (no_stop-before s t, no_stop-rest s t) (simp (and-false), refl)

-- what stands from the first stop on changes nothing in the number at the front
pub rest_unread : (s t : List ℕ) (b : ℕ) → is_stop b ≡ true → read_of (s ++ (b ∷ t)) ≡ read_of s
unfolding read_of
rest_unread s t b e = rw (before-append s t b e)

-- stops behind an input change nothing in the whole's number: a carriage return before a line feed, say
stops_append : (r t : List ℕ) → T (are_stops t) → are_stops (r ++ t) ≡ are_stops r
unfolding are_stops
stops_append [] t h = true_is (are_stops t) h
stops_append (b ∷ r) t h = ap (λ (u : Bool). is_stop b && u) (stops_append r t h)

rest-append : (s t : List ℕ) (b : ℕ) → T (are_stops (b ∷ t)) → are_stops (rest_of (s ++ (b ∷ t))) ≡ are_stops (rest_of s)
unfolding rest_of are_stops
rest-append [] t b h = rw (true_is (is_stop b) (both_left (is_stop b) (are_stops t) h)) (true_is (are_stops (b ∷ t)) h)
rest-append (c ∷ s) t b h =
    by-test (λ (u : Bool). are_stops (cond u (c ∷ (s ++ (b ∷ t))) (rest_of (s ++ (b ∷ t)))) ≡ are_stops (cond u (c ∷ s) (rest_of s))) (is_stop c)
    (λ e. stops_append (c ∷ s) (b ∷ t) h)
    (λ e. rest-append s t b h)

pub stops_behind : (s t : List ℕ) → T (are_stops t) → whole_of (s ++ t) ≡ whole_of s
unfolding whole_of are_stops
stops_behind s [] h = ap whole_of (append-nil s)
stops_behind s (b ∷ t) h =
    rw (before-append s t b (true_is (is_stop b) (both_left (is_stop b) (are_stops t) h)), rest-append s t b h)
