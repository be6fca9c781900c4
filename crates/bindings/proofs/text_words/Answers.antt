-- `bindings::text_words`: the words passed and those of the text that is left make the whole text.
use mathlib.Core.Path.{sym}
use native.Mathlib.Omega.{arith}
use Rattle.bindings.proofs.Parts.{text_at, text-passed, first_of_more}
use Rattle.bindings.proofs.text_words.Goals as goal

pub returns-in-Some : goal.returns-in-Some
returns-in-Some c =
    let first = c.in-Some.ensures in
    (sym (text_at _ _ _ _ (first_of_more _ _ _ c.args.n _ (omega arith) first)), omega (arith, first.within))

pub returns-in-None : goal.returns-in-None
returns-in-None c =
    let front = text-passed _ _ c.args.at c.args.n (omega arith) c.in-None.ensures in
    let rest = c.long_words.ensures in
    (omega arith, omega arith)
