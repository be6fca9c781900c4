use native.Mathlib.Omega.{arith}
use Rattle.references.proofs.Forms.{list-end}
use Rattle.references.proofs.list_end.Goals as goal

pub returns : goal.returns
returns c = (omega (arith, list-end c.args.s.now, c.read_u16.ensures), omega arith)
