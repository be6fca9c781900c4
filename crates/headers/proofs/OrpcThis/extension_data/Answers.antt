-- `OrpcThis::extension_data`: the data lies within the bytes.
use Rattle.headers.proofs.HeaderAnswers.{this-lies}
use Rattle.headers.proofs.OrpcThis.extension_data.Goals as goal

pub data_of-requires : goal.data_of-requires
data_of-requires c = rw c.extension.ensures (let h = this-lies c.args.s.now c.args.k in (h.order, h.end))
