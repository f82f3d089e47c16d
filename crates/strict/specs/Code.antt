-- The strict list as the code holds it: the row by the columns that a record has, the allowed numbers as bits.
use Rattle.std.specs.Prelude.{ℕ, Bool, not, ◌&&◌, List, map, eqb}
use Rattle.promise.specs.Member.{member}
use Rattle.lookup.specs.Descriptions.{bit_in, bits_of}
use Rattle.records.specs.Kinds.{mark_number, mark_of}
use Rattle.records.specs.Rows.{row_kind}
use Rattle.records.specs.declared.Record.{Record}
use Rattle.refusals.specs.declared.Refusal.{Refusal}
use Rattle.strict.specs.Stricter.{Stricter, stricter, telling}
use Rattle.strict.specs.declared.Line.{Line}

unfoldable pub stored : Stricter → Line
stored d =
    record {
      allowed = bits_of (λ x. member x d.allowed) 0 64;
      name = d.row.name;
      start = d.row.start;
      width = d.row.width;
      mark = mark_of (row_kind d.row);
      reason = d.reason;
      tells = d.tells;
      excused = d.excused;
    }

-- the whole list
unfoldable pub lines : List Line
lines = map stored stricter

-- a stored line is asked as the line itself is
abbrev pub is_of_as : Line → Record → Bool
is_of_as l x =
    eqb x.start l.start
    && (eqb x.width l.width
    && (eqb x.name l.name
    && eqb (mark_number x.mark) (mark_number l.mark)))

abbrev pub fails_as : Bool → Record → Line → Bool
fails_as nested x l = is_of_as l x && (not (nested && l.excused) && not (bit_in l.allowed x.value))

abbrev pub refusal_as : Line → ℕ → Refusal
refusal_as l x = telling l.tells l.start l.width l.reason x
