-- `Context::fields`: each field is read.
use Rattle.contexts.proofs.Context.fields.Goals as goal

pub returns : goal.returns
returns c =
    λ u.
    record {
      id = c.read_guid.ensures u;
      reserved = c.read_u32.ensures u;
      marshal = c.read_u32-2.ensures u;
      count = c.read_u32-3.ensures u;
      frozen = c.read_u32-4.ensures u;
    }
