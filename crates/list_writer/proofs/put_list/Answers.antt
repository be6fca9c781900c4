-- `list_writer::put_list`: N, S and both parts, one after the other.
use Rattle.list_writer.proofs.Making.{made-written}
use Rattle.list_writer.proofs.put_list.Goals as goal

pub returns : goal.returns
returns c =
    made-written c.args.strings.now c.args.security.now c.args.buf.now _ _ _ _ _ _ c.requires.1
    c.write_u16.ensures c.write_u16-2.ensures c.put_words.ensures
    c.write_u16-3.ensures c.put_words-2.ensures c.write_u16-4.ensures
