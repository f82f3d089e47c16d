-- Each rule's numbers are those computed from its texts: the rules of one bit by one law, each other rule by computing, a number past the
-- last as no rule.
use mathlib.Core.Path.{◌≡◌, refl, sym, ap, ◌∙◌}
use Prim.Native.Nat.{ℕ}
use native.Mathlib.Omega.{arith}
use Rattle.registers.specs.Registers.{registers}
use Rattle.texts.specs.Rules.{rules}
use Rattle.texts.specs.Pool.{on_list, rule_at, describes, codes_of, first_of}
use Rattle.lookup.specs.Descriptions.{bits_of, numbers_of}
use Rattle.lookup.specs.declared.Descriptions.{Descriptions}
use Rattle.lookup.proofs.Numbers.{one_bit_lem, no_rule}
use Rattle.lookup.proofs.in_numbers.Goals as goal

arm : (k n : ℕ) (s : Descriptions) → n ≡ k → s ≡ numbers_of k → s ≡ numbers_of n
arm k n s e h = h ∙ ap numbers_of (sym e)

pub returns-then-rule-eq-PLAIN : goal.returns-then-rule-eq-PLAIN
unfolding numbers_of bits_of describes on_list rule_at first_of codes_of rules
returns-then-rule-eq-PLAIN c = arm 0 c.args.rule _ (omega arith) refl

pub returns-then-rule-lt-ISS_RES0 : goal.returns-then-rule-lt-ISS_RES0
returns-then-rule-lt-ISS_RES0 c = one_bit_lem c.args.rule (omega arith) (omega arith)

pub returns-in-32 : goal.returns-in-32
unfolding numbers_of bits_of describes on_list rule_at first_of codes_of rules
returns-in-32 c = arm 32 c.args.rule _ (omega arith) refl

pub returns-in-33 : goal.returns-in-33
unfolding numbers_of bits_of describes on_list rule_at first_of codes_of rules
returns-in-33 c = arm 33 c.args.rule _ (omega arith) refl

pub returns-in-34 : goal.returns-in-34
unfolding numbers_of bits_of describes on_list rule_at first_of codes_of rules
returns-in-34 c = arm 34 c.args.rule _ (omega arith) refl

pub returns-in-35 : goal.returns-in-35
unfolding numbers_of bits_of describes on_list rule_at first_of codes_of rules
returns-in-35 c = arm 35 c.args.rule _ (omega arith) refl

pub returns-in-36 : goal.returns-in-36
unfolding numbers_of bits_of describes on_list rule_at first_of codes_of rules
returns-in-36 c = arm 36 c.args.rule _ (omega arith) refl

pub returns-in-37 : goal.returns-in-37
unfolding numbers_of bits_of describes on_list rule_at first_of codes_of rules
returns-in-37 c = arm 37 c.args.rule _ (omega arith) refl

pub returns-in-38 : goal.returns-in-38
unfolding numbers_of bits_of describes on_list rule_at first_of codes_of rules
returns-in-38 c = arm 38 c.args.rule _ (omega arith) refl

pub returns-in-39 : goal.returns-in-39
unfolding numbers_of bits_of describes on_list rule_at first_of codes_of rules
returns-in-39 c = arm 39 c.args.rule _ (omega arith) refl

pub returns-in-40 : goal.returns-in-40
unfolding numbers_of bits_of describes on_list rule_at first_of codes_of rules
returns-in-40 c = arm 40 c.args.rule _ (omega arith) refl

pub returns-in-41 : goal.returns-in-41
unfolding numbers_of bits_of describes on_list rule_at first_of codes_of rules
returns-in-41 c = arm 41 c.args.rule _ (omega arith) refl

pub returns-in-42 : goal.returns-in-42
unfolding numbers_of bits_of describes on_list rule_at first_of codes_of rules
returns-in-42 c = arm 42 c.args.rule _ (omega arith) refl

pub returns-in-43 : goal.returns-in-43
unfolding numbers_of bits_of describes on_list rule_at first_of codes_of rules
returns-in-43 c = arm 43 c.args.rule _ (omega arith) refl

pub returns-in-44 : goal.returns-in-44
unfolding numbers_of bits_of describes on_list rule_at first_of codes_of rules
returns-in-44 c = arm 44 c.args.rule _ (omega arith) refl

pub returns-in-45 : goal.returns-in-45
unfolding numbers_of bits_of describes on_list rule_at first_of codes_of rules
returns-in-45 c = arm 45 c.args.rule _ (omega arith) refl

pub returns-in-46 : goal.returns-in-46
unfolding numbers_of bits_of describes on_list rule_at first_of codes_of rules
returns-in-46 c = arm 46 c.args.rule _ (omega arith) refl

pub returns-in-47 : goal.returns-in-47
unfolding numbers_of bits_of describes on_list rule_at first_of codes_of rules
returns-in-47 c = arm 47 c.args.rule _ (omega arith) refl

pub returns-in-48 : goal.returns-in-48
unfolding numbers_of bits_of describes on_list rule_at first_of codes_of rules
returns-in-48 c = arm 48 c.args.rule _ (omega arith) refl

pub returns-in-49 : goal.returns-in-49
unfolding numbers_of bits_of describes on_list rule_at first_of codes_of rules registers
returns-in-49 c = arm 49 c.args.rule _ (omega arith) refl

pub returns-in_default : goal.returns-in_default
returns-in_default c = no_rule c.args.rule (omega arith)
