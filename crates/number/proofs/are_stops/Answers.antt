-- The chain tests the bytes, each of which is a stop just where stops alone stand there.
use Rattle.std.proofs.Common.{◌∙◌, rules}
use Rattle.std.proofs.lemmas.Iterator.{YieldsList-from_slice}
use Rattle.std.proofs.lemmas.Iterator.Search.{all_from_yields_List}
use Rattle.number.proofs.Laws.{stops_all}
use Rattle.number.specs.Rest.{is_stop}
use Rattle.number.proofs.are_stops.Goals as goal

pub returns : goal.returns
returns c =
    all_from_yields_List is_stop _ _ _ c.all.ensures.ran
    (YieldsList-from_slice c.args.rest.now cc) (λ x b q k. search rules)
    ∙ stops_all c.args.rest.now
