-- The lines that tell a walk over a fault block, byte for byte. The first word of each says what it tells: ok, refused, lost, same, entries, end.
use Rattle.std.specs.Prelude.{ℕ, cond, List, [], ◌++◌, eqb, Option, Some, None}
use Rattle.digits.specs.Digits.{numeral}
use Rattle.entry.specs.declared.Entry.{Entry}
use Rattle.esr.specs.Decode.{class_of}
use Rattle.refusals.specs.Refusals.{passed}
use Rattle.refusals.specs.declared.Refusal.{Refusal}
use Rattle.reply_lines.specs.Lines.{number_line, refused_by, why}
use Rattle.strict.specs.Strict.{answer_by}
use Rattle.strict.specs.declared.Profile.{Profile}
use Rattle.texts.specs.Pool.{bytes, description_of}
use Rattle.texts.specs.Rules.{class_name}

-- ok, or refused N, of the entry's value, read ordinarily or strictly (#110); then where it stands and its numbers; then the class text, or why
unfoldable pub verdict : Refusal → List ℕ
verdict f = cond (passed f) (bytes "ok") (refused_by f)

unfoldable pub place : ℕ → List ℕ
place offset = bytes " at " ++ numeral 10 offset

unfoldable pub numbers_part : Entry → List ℕ
numbers_part e = bytes ", sequence " ++ numeral 10 e.sequence ++ bytes ", esr 0x" ++ numeral 16 e.esr ++ bytes ": "

unfoldable pub meaning : Refusal → ℕ → List ℕ
meaning f esr = cond (passed f) (bytes (description_of class_name.number (class_of esr))) (why f)

unfoldable pub entry_line : Profile → ℕ → Entry → List ℕ
entry_line profile offset e =
    verdict (answer_by profile e.esr).refusal ++ place offset ++ numbers_part e ++ meaning (answer_by profile e.esr).refusal e.esr ++ bytes "\n"

-- between two entries: how many were lost, or that the number stood twice; nothing where none was skipped
unfoldable pub step_line : ℕ → List ℕ
step_line n = cond (eqb n 0) [] (cond (eqb n 65535) (bytes "same sequence\n") (number_line (bytes "lost ") 10 n))

-- how many entries were read, and how many of their values decode
unfoldable pub count_line : ℕ → ℕ → List ℕ
count_line entries decoded = bytes "entries " ++ numeral 10 entries ++ number_line (bytes ", decoded ") 10 decoded

-- where and why the walk ended: at the block's end, at erased flash, or at a bad entry, by its refusal
unfoldable pub sound_end : ℕ → ℕ → List ℕ
sound_end length offset = bytes "end" ++ place offset ++ cond (eqb offset length) (bytes ": the block's end\n") (bytes ": erased flash\n")

unfoldable pub bad_end : ℕ → Refusal → List ℕ
bad_end offset f = refused_by f ++ place offset ++ bytes ": " ++ why f ++ bytes "\n"

unfoldable pub end_line : ℕ → ℕ → Option Refusal → List ℕ
end_line length offset None = sound_end length offset
end_line length offset (Some f) = bad_end offset f
