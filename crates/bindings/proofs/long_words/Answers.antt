-- `bindings::long_words`: the words passed and those of the text that is left make the whole text.
use native.Mathlib.Omega.{arith}
use Rattle.bindings.proofs.Parts.{text_at, text_all, text-passed}
use Rattle.bindings.proofs.long_words.Goals as goal

pub returns-in-Some : goal.returns-in-Some
returns-in-Some c =
    let passed = c.block_words-passed.ensures in
    let front = text-passed _ _ _ _ passed.0 passed.1 in
    let first = c.in-Some.ensures in
    let rest = text_at _ _ _ _ first in
    (omega arith, omega (arith, first.within))

pub returns-in-None : goal.returns-in-None
returns-in-None c =
    let passed = c.block_words-passed.ensures in
    let front = text-passed _ _ _ _ passed.0 passed.1 in
    let rest = text_all _ _ _ c.in-None.ensures in
    (omega arith, omega arith)
