-- By the reason; two have words of the class's own leaves.
use Rattle.make_reply.proofs.Laws.{said-layout, said_wide, said-other}
use Rattle.make_reply.proofs.Asked.put_unmade.Goals as goal

pub returns-in-NoLayout : goal.returns-in-NoLayout
returns-in-NoLayout c =
    let a = c.args.self in
    rw (said-layout a.class a.il a.iss2 a.leaves.now c.args.refusal c.args.index c.in-NoLayout.is)
    c.put_no_layout_line.ensures

pub returns-in-WideLeaf : goal.returns-in-WideLeaf
returns-in-WideLeaf c =
    let a = c.args.self in
    rw (
      said_wide a.class a.il a.iss2 a.leaves.now c.args.refusal c.args.index c.in-WideLeaf.is,
      ← c.unwrap_or.ensures,
      ← c.outcome-iss.ensures,
    ) c.put_wide_line.ensures

pub returns-in_default : goal.returns-in_default
returns-in_default c =
    let a = c.args.self in
    rw (said-other a.class a.il a.iss2 a.leaves.now c.args.refusal c.args.index c.in_default.not-NoLayout
    c.in_default.not-WideLeaf)
    c.put_refusal.ensures
