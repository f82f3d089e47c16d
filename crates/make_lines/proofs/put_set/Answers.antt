-- How many leaves, then a line for each.
use native.Mathlib.Omega.{arith}
use Rattle.buffer.proofs.Appending.{and_then}
use Rattle.leaf_values.proofs.Laws.{few-leaves}
use Rattle.make_lines.specs.Help.{set_text}
use Rattle.texts.specs.Pool.{bytes}
use Rattle.make_lines.proofs.put_set.Goals as goal

pub put_leaves-requires : goal.put_leaves-requires
put_leaves-requires c = omega (arith, c.leaf_count-count.ensures, few-leaves c.args.number c.args.iss)

pub returns : goal.returns
unfolding set_text bytes
returns c =
    rw (← c.leaf_count-count.ensures)
    (and_then (and_then c.put_leaf_count-next.ensures c.put_bytes-next.ensures) c.put_leaves.ensures)
