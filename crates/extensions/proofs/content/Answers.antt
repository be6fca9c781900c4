-- `extensions::content`: the data lies within the bytes.
use Rattle.extensions.proofs.ArrayWalk.{lies}
use Rattle.extensions.proofs.content.Goals as goal

pub data_of-requires : goal.data_of-requires
data_of-requires c = rw c.locate.ensures (let h = lies c.args.s.now c.args.at c.args.k in (h.order, h.end))
