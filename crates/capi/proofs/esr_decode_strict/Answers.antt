-- The profile is the one that the number tells.
use Prim.Native.Nat.{ℕ}
use mathlib.Core.Path.{◌≡◌, sym, ap, ◌∙◌}
use borrow.Author.Tests.{eq-eqb, ne_eqb}
use Rattle.strict.specs.declared.Profile.{Profile}
use Rattle.strict.specs.declared.Profile.TheVariants.{Strict, Nested}
use Rattle.capi.specs.Words.{decoding, strict_of}
use Rattle.capi.proofs.esr_decode_strict.Goals as goal

without : (nested : ℕ) → nested ≡ 0 → Strict ≡ strict_of nested
without nested h = sym (rw (eq-eqb nested 0 h))

with_it : (nested : ℕ) → (nested ≡ 0 → ⊥) → Nested ≡ strict_of nested
with_it nested h = sym (rw (ne_eqb nested 0 h))

pub returns-then-nested-eq0 : goal.returns-then-nested-eq0
returns-then-nested-eq0 c =
    let a = c.args in
    c.fill_by.ensures ∙ ap (λ (p : Profile). decoding p a.esr a.slots.now) (without a.nested c.if-nested-eq0.true)

pub returns : goal.returns
returns c =
    let a = c.args in
    c.fill_by-2.ensures ∙ ap (λ (p : Profile). decoding p a.esr a.slots.now) (with_it a.nested c.if-nested-eq0.false)
