-- `Block::read`: its fields, one by one.
use mathlib.Core.Path.{◌∙◌}
use Rattle.references.proofs.Block.read.Goals as goal

pub returns : goal.returns
returns c =
    c.new.ensures
    ∙ (λ u.
    record {
      flags = c.read_u32.ensures u;
      public = c.read_u32-2.ensures u;
      oxid = record { 0 = c.read_u64.ensures u };
      oid = record { 0 = c.read_u64-2.ensures u };
      ipid = c.read_guid-ipid.ensures u;
    })
