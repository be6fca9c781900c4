-- `filter::mark_all_bytes`: the numbers are the words.
use borrow.Author.Rules.{rules}
use Rattle.bindings.specs.Filter.{words_in}
use Rattle.bindings.proofs.Marks.{words-length, word_in}
use Rattle.bindings.proofs.filter.mark_all_bytes.Goals as goal

pub returns : goal.returns
returns c =
    let s = c.args.protocols.now in
    c.mark_each.ensures (words_in s) (words-length s) (λ k x b gives. rw (word_in s k b) (search rules))
