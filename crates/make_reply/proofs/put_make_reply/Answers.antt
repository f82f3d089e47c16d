-- By whether a value was made; what was made, and which set fits, is the maker's to say.
use Rattle.std.specs.Prelude.{Ok, Err}
use Rattle.texts.specs.Pool.{bytes}
use Rattle.make_reply.proofs.put_make_reply.Goals as goal

pub returns-in-Ok : goal.returns-in-Ok
unfolding bytes
returns-in-Ok c =
    record {
      made = Ok c.in-Ok.value;
      index = c.fitting-index.result;
      makes = c.in-Ok.ensures;
      fits = c.fitting-index.ensures;
      puts = c.put_number_line.ensures;
    }

pub returns-in-Err : goal.returns-in-Err
returns-in-Err c =
    record {
      made = Err c.in-Err.refusal;
      index = c.fitting-index.result;
      makes = c.in-Err.ensures;
      fits = c.fitting-index.ensures;
      puts = c.put_unmade.ensures;
    }
