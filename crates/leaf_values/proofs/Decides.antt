-- Each promise of this crate decides its answer: it says what the answer is.
use Rattle.leaf_values.specs.Promises.{AnyMay, LeafRow, LeafCount, MayBe, RoomOf, SameLeaves, SameSets}
use Rattle.promise.proofs.Laws.{same}
use Rattle.promise.specs.Promise.{Decides}

pub leaf_count_decides : Decides LeafCount
leaf_count_decides (number, iss) a b = same

pub leaf_row_decides : Decides LeafRow
leaf_row_decides (number, iss, index) a b = same

pub same_sets_decides : Decides SameSets
same_sets_decides (number, iss, second, other) a b = same

pub same_leaves_decides : Decides SameLeaves
same_leaves_decides (number, iss, other) a b = same

pub room_of_decides : Decides RoomOf
room_of_decides width a b = same

pub may_be_decides : Decides MayBe
may_be_decides (number, iss, index, x) a b = same

pub any_may_decides : Decides AnyMay
any_may_decides (number, iss, index) a b = same
