-- Sets of records: at most 19, in order, with the empty record in the slots after them.
use Rattle.std.specs.Prelude.{ℕ, ◌-◌, cond, List, ◌++◌, ltb, length, get_or, take, replicate}
use Rattle.records.specs.declared.Mark.TheVariants.{Free}
use Rattle.records.specs.declared.Record.{Record}
use Rattle.records.specs.declared.Records.{Records}

abbrev pub set_room : ℕ
set_room = 19

abbrev pub no_record : Record
no_record = record { value = 0; name = 0; text = 0; long = 0; start = 0; width = 0; mark = Free }

-- the set that holds these records
unfoldable pub records_of : List Record → Records
records_of l = record { items = l ++ replicate (set_room - length l) no_record; count = length l }

-- the records that a set counts, in order
abbrev pub list_of : Records → List Record
list_of s = take s.count s.items

-- the record at an index; the empty record past the last, and past the set's room
unfoldable pub record_at : Records → ℕ → Record
record_at s i = cond (ltb i s.count) (cond (ltb i set_room) (get_or s.items i no_record) no_record) no_record
