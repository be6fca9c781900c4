use mathlib.Core.Path.{sym}
use Rattle.references.specs.References.{fixed_size}
use Rattle.references.proofs.Forms.{by-other}
use Rattle.references.proofs.fixed_size.Goals as goal

pub returns-then-f-eq-STANDARD : goal.returns-then-f-eq-STANDARD
unfolding fixed_size
returns-then-f-eq-STANDARD c = rw c.if-f-eq-STANDARD.true

pub returns-then-f-eq-HANDLER : goal.returns-then-f-eq-HANDLER
unfolding fixed_size
returns-then-f-eq-HANDLER c = rw c.if-f-eq-HANDLER.true

pub returns-then-f-eq-CUSTOM : goal.returns-then-f-eq-CUSTOM
unfolding fixed_size
returns-then-f-eq-CUSTOM c = rw c.if-f-eq-CUSTOM.true

pub returns-then-f-eq-EXTENDED : goal.returns-then-f-eq-EXTENDED
unfolding fixed_size
returns-then-f-eq-EXTENDED c = rw c.if-f-eq-EXTENDED.true

pub returns : goal.returns
unfolding fixed_size
returns c = sym (by-other _ 64 80 48 68 0 c.if-f-eq-STANDARD.false c.if-f-eq-HANDLER.false c.if-f-eq-CUSTOM.false c.if-f-eq-EXTENDED.false)
