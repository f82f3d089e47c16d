-- Each promise of this crate decides its answer: it says what the answer is.
use Rattle.promise.specs.Promise.{Decides}
use Rattle.promise.proofs.Laws.{same}
use Rattle.engine_table.specs.Promises.{RowWord, PlaceWord, CheckWord, ValuesOf, FirstText}

pub row_word_decides : Decides RowWord
row_word_decides index a b = same

pub place_word_decides : Decides PlaceWord
place_word_decides class a b = same

pub check_word_decides : Decides CheckWord
check_word_decides class a b = same

pub values_of_decides : Decides ValuesOf
values_of_decides rule a b = same

pub first_text_decides : Decides FirstText
first_text_decides rule a b = same
