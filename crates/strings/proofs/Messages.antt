-- The rule of messages says something of 1 to 7, and of no other number: by computing below 8, and past its codes there is no text.
use mathlib.Core.Path.{◌≡◌, refl, ◌∙◌}
use mathlib.Core.Bool.{Bool, true, false}
use Prim.Native.Nat.{ℕ, zero, suc, ◌≤◌, ◌<◌}
use native.Mathlib.Omega.{arith}
use borrow.Author.Tests.{leb-true, leb-false, le-leb, lt-leb}
use lib.Dec.{leb}
use Rattle.promise.proofs.Tests.{is_true}
use Rattle.texts.specs.Pool.{describes, on_list, rule_at}
use Rattle.texts.specs.Rules.{rules, message}
use Rattle.texts.proofs.Laws.{describes-below}
use Rattle.strings.specs.Messages.{has_message}

eight : (rule_at message.number).codes ≡ 8
unfolding rule_at rules
eight = refl

-- past the offsets of the rule nothing is said
describes-past : (n : ℕ) → 7 < n → describes message.number n ≡ false
describes-past n h = by-test (describes message.number n) refl
  where
    by-test : (b : Bool) → describes message.number n ≡ b → b ≡ false
    by-test true e = absurd (omega (arith, h, describes-below message.number n (is_true e), eight))
    by-test false e = refl

describes-few : (n : ℕ) → n ≤ 7 → describes message.number n ≡ has_message n
unfolding describes on_list rule_at rules
describes-few zero h = refl
describes-few (suc zero) h = refl
describes-few (suc (suc zero)) h = refl
describes-few (suc (suc (suc zero))) h = refl
describes-few (suc (suc (suc (suc zero)))) h = refl
describes-few (suc (suc (suc (suc (suc zero))))) h = refl
describes-few (suc (suc (suc (suc (suc (suc zero)))))) h = refl
describes-few (suc (suc (suc (suc (suc (suc (suc zero))))))) h = refl
describes-few (suc (suc (suc (suc (suc (suc (suc (suc n)))))))) h = absurd (omega arith)

pub has-message : (n : ℕ) → describes message.number n ≡ has_message n
has-message n = by-test (leb n 7) refl
  where
    by-test : (b : Bool) → leb n 7 ≡ b → describes message.number n ≡ has_message n
    by-test true e = describes-few n (leb-true n 7 e)
    by-test false e =
        let h : 7 < n = leb-false n 7 e in
        describes-past n h ∙ rw (le-leb 1 n (omega arith), lt-leb n 7 h)
