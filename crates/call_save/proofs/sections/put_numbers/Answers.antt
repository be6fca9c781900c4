-- `sections::put_numbers`: field by field.
use Rattle.call_save.proofs.sections.SectionRows.{numbers-put}
use Rattle.call_save.proofs.sections.put_numbers.Goals as goal

pub returns : goal.returns
returns c = search numbers-put
