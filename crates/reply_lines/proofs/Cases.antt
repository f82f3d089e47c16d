-- The words of a refusal by whether it has a message.
use Prim.Native.Nat.{ℕ}
use mathlib.Core.Bool.{true, false}
use mathlib.Core.Path.{◌≡◌, sym, ◌∙◌}
use Rattle.refusals.specs.Refusals.{refusal_number}
use Rattle.refusals.specs.declared.Refusal.{Refusal}
use Rattle.reply_lines.specs.Lines.{why}
use Rattle.strings.proofs.Messages.{has-message}
use Rattle.strings.specs.Messages.{message_text}
use Rattle.texts.specs.Pool.{bytes, describes, description_of}
use Rattle.texts.specs.Rules.{message, own_words}

module _ (f : Refusal) (n : ℕ) (is : n ≡ refusal_number f) where
  pub why-message : describes message.number n ≡ true → why f ≡ message_text n f.carries f.start f.width
  unfolding why
  why-message h = rw (← is, sym (has-message n) ∙ h)

  pub why-own : describes message.number n ≡ false → why f ≡ bytes (description_of own_words.number n)
  unfolding why
  why-own h = rw (← is, sym (has-message n) ∙ h)
