-- `element_data`: the bytes of the place, and where they begin.
use Rattle.references.proofs.element_data.Goals as goal

pub bytes_of-requires : goal.bytes_of-requires
bytes_of-requires c = c.locate_element.ensures.within

pub returns : goal.returns
returns c = rw (← c.locate_element.ensures.place) c.bytes_of.ensures
