-- A leaf fits its width if its lowest bits are all of it.
use Rattle.std.proofs.Common.{◌∙◌, rules}
use Rattle.std.proofs.lemmas.Iterator.{YieldsList-from_slice, YieldsList-from_zip}
use Rattle.std.proofs.lemmas.Iterator.Search.{all_from_yields_List}
use Rattle.maker.proofs.Steps.{fits_width, widths-all}
use Rattle.maker.proofs.in_widths.Goals as goal

pub returns : goal.returns
returns c =
    let rows = c.args.rows.now in
    let leaves = c.args.leaves.now in
    all_from_yields_List fits_width c.all.new.self _ _ c.all.ensures.ran
    (YieldsList-from_zip {s = c.zip.result} (YieldsList-from_slice rows cc) (YieldsList-from_slice leaves cc)) (λ x b q k. search rules)
    ∙ widths-all rows leaves
