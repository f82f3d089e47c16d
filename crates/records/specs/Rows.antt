-- What a row says of a value: the record that it gives, whether what it asks is met, and what it refuses.
use Rattle.std.specs.Prelude.{ℕ, Bool}
use Rattle.refusals.specs.declared.Refusal.{Refusal}
use Rattle.records.specs.Bits.{field_of}
use Rattle.records.specs.Kinds.{Kind, kind_of, mark_of, allows, reason_of, named}
use Rattle.records.specs.Subjects.{text_of}
use Rattle.records.specs.declared.Record.{Record}
use Rattle.records.specs.declared.Row.{Row}

-- a row's field of a value, and its kind
abbrev pub value_in : ℕ → Row → ℕ
value_in v r = field_of v r.start r.width

abbrev pub row_kind : Row → Kind
row_kind r = kind_of r.kind

unfoldable pub record_of : ℕ → Row → Record
record_of v r =
    record {
      value = value_in v r;
      name = r.name;
      text = text_of r.rule (value_in v r);
      long = r.long;
      start = r.start;
      width = r.width;
      mark = mark_of (row_kind r);
    }

unfoldable pub meets : ℕ → Row → Bool
meets v r = allows (row_kind r) r.rule (value_in v r)

-- a row's refusal carries its field, shifted down
unfoldable pub refusal_of : ℕ → Row → Refusal
refusal_of v r =
    record {
      carries = value_in v r;
      start = named (row_kind r) r.start;
      width = named (row_kind r) r.width;
      reason = reason_of (row_kind r);
    }
