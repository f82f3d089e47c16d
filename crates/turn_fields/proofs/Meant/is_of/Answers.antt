-- By its name, or by its lowest bit.
use Rattle.turn_fields.specs.Fields.{means_by}
use Rattle.turn_fields.proofs.Meant.is_of.Goals as goal

pub returns-in-Name : goal.returns-in-Name
unfolding means_by
returns-in-Name c = rw c.in-Name.is c.is_text.ensures

pub returns-in-Bit : goal.returns-in-Bit
unfolding means_by
returns-in-Bit c = rw c.in-Bit.is
