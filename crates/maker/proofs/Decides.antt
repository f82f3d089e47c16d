-- Each promise of this crate decides its answer: what is chosen is chosen alone, and the answer is what follows from it.
use Rattle.std.proofs.Common.{sym, ap, ◌∙◌}
use Rattle.promise.specs.Promise.{Decides}
use Rattle.maker.specs.Making.{made_of}
use Rattle.maker.specs.Promises.{index_for, Fitting, Makes}
use Rattle.maker.proofs.Choosing.{one_choice}

pub fitting_decides : Decides Fitting
fitting_decides (class, leaves) a b p q = p.2 ∙ ap (index_for class leaves) (one_choice class leaves p.1 q.1) ∙ sym q.2

pub make_decides : Decides Makes
make_decides (class, il, iss2, leaves) a b p q = p.2 ∙ ap (made_of class il iss2 leaves) (one_choice class leaves p.1 q.1) ∙ sym q.2
