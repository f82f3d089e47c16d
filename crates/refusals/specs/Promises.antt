-- What each public function promises. A promise takes what comes in, then what comes out.
use Rattle.std.specs.Prelude.{ℕ, Bool, ◌≡◌, Option, Result}
use Rattle.refusals.specs.Refusals.{reason_number, carrying, checked, is_refused}
use Rattle.refusals.specs.Values.{value_number, value_place}
use Rattle.refusals.specs.declared.Reason.{Reason}
use Rattle.refusals.specs.declared.Refusal.{Refusal}

abbrev pub Number : Reason → ℕ → Type 0
Number reason r = r ≡ reason_number reason

abbrev pub Carrying : Reason × ℕ → Refusal → Type 0
Carrying (reason, carries) r = r ≡ carrying reason carries

abbrev pub IsRefused : Refusal → Bool → Type 0
IsRefused f r = r ≡ is_refused f

abbrev pub Checked : Refusal → Result Unit Refusal → Type 0
Checked f r = r ≡ checked f

-- the number at a place of those that a value can be refused by, and the place of a number
abbrev pub ValueNumber : ℕ → ℕ → Type 0
ValueNumber place r = r ≡ value_number place

abbrev pub ValuePlace : ℕ → Option ℕ → Type 0
ValuePlace number r = r ≡ value_place number
