-- `call_lists::noted_list_step`: the local array is an index, noted in or not.
use mathlib.Core.Path.{refl}
use native.Mathlib.Omega.{arith}
use borrow.Author.Rules.{rules}
use Rattle.call_lists.proofs.Index.{indexed-all}
use Rattle.call_lists.proofs.noted_list_step.Goals as goal

pub note_rows-requires : goal.note_rows-requires
note_rows-requires c = (search rules, indexed-all 4096 255 _ refl (omega arith))
