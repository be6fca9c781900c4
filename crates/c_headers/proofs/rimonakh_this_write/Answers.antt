-- `rimonakh_this_write`: the header that is made has the fields given.
use Rattle.c_headers.proofs.rimonakh_this_write.Goals as goal

pub returns : goal.returns
returns c = rw c.number.ensures (rw c.new-header.ensures at c.write.ensures)
