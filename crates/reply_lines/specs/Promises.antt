-- What each public function promises: of what comes in and what the buffer holds before, the next offset and what the buffer holds after.
use Rattle.std.specs.Prelude.{ℕ, List}
use Rattle.buffer.specs.Appending.{Appends}
use Rattle.digits.specs.Digits.{radix_of}
use Rattle.digits.specs.declared.Base.{Base}
use Rattle.refusals.specs.declared.Refusal.{Refusal}
use Rattle.reply_lines.specs.Lines.{carried_line, number_line, refusal_line, refused_by, why}

abbrev pub NumberLine : List ℕ × ℕ × List ℕ × Base × ℕ → ℕ × List ℕ → Type 0
NumberLine (before, at, front, base, value) out = Appends (number_line front (radix_of base) value) (at, before) out

-- the two parts that a refusal's lines have, which other lines have too
abbrev pub RefusedPart : List ℕ × ℕ × Refusal → ℕ × List ℕ → Type 0
RefusedPart (before, at, refusal) out = Appends (refused_by refusal) (at, before) out

abbrev pub WhyPart : List ℕ × ℕ × Refusal → ℕ × List ℕ → Type 0
WhyPart (before, at, refusal) out = Appends (why refusal) (at, before) out

abbrev pub RefusalLine : List ℕ × ℕ × Refusal → ℕ × List ℕ → Type 0
RefusalLine (before, at, refusal) out = Appends (refusal_line refusal) (at, before) out

abbrev pub CarriedLine : List ℕ × ℕ × Refusal → ℕ × List ℕ → Type 0
CarriedLine (before, at, refusal) out = Appends (carried_line refusal) (at, before) out
