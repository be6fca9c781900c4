-- `table_judge::interfaces_sound`: the clauses of the interfaces in turn.
use mathlib.Core.Path.{refl}
use Rattle.table_judge.proofs.Clauses.{judged-fails, judged-passes, judged-last, leaves-not, leaves-where}
use Rattle.table_judge.proofs.interfaces_sound.Goals as goal

pub returns-then-not-ipids_proper : goal.returns-then-not-ipids_proper
returns-then-not-ipids_proper c = (λ s. judged-fails _ refl (c.ipids_proper.ensures.0 s) c.if-not-ipids_proper.true-raw, leaves-not)

pub returns : goal.returns
returns c =
    let p = c.ipids_proper.ensures in
    (λ s. judged-last (judged-passes _ refl (p.0 s) c.if-not-ipids_proper.false-raw) (c.interfaces_held.ensures s), leaves-where p.1 c.if-not-ipids_proper.false-raw)
