-- `rimonakh_this_write_extensions`: the header that is made has the fields given.
use Rattle.extensions.proofs.ArrayWalk.{reached-answer}
use Rattle.c_headers.proofs.rimonakh_this_write_extensions.Goals as goal

pub returns : goal.returns
returns c = rw (c.from.ensures, reached-answer c.write_with.result) (rw c.new-header.ensures at c.write_with.ensures)
