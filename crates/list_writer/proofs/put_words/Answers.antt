-- `list_writer::put_words`: what is written and what is left to write make the whole.
use Prim.Native.Nat.{ℕ, ◌+◌, ◌*◌}
use mathlib.Core.List.{List}
use mathlib.Core.Path.{refl, sym, ap, ◌∙◌}
use native.Mathlib.Omega.{arith}
use native.Mathlib.Nat.{add-zero}
use borrow.Author.Rules.{rules}
use lib.ListN.{length, drop, drop_of_length-le}
use Rattle.fields.specs.Fields.{written}
use Rattle.fields.proofs.Fields.{length-written}
use Rattle.bindings.specs.ListBytes.{word_bytes}
use Rattle.bindings.proofs.FilterLoops.{written-empty}
use Rattle.list_writer.proofs.Making.{words_step}
use Rattle.list_writer.proofs.put_words.Goals as goal

pub loop-i-init : goal.loop-i-init
loop-i-init c = (refl, rw (add-zero c.args.to))

pub loop-i-preserved : goal.loop-i-preserved
loop-i-preserved c =
    let a = c.args in
    let l = c.loop-i in
    let w = c.write_u16.ensures in (
      ap length w ∙ length-written _ _ _ ∙ l.invariant.0,
      ap (λ (x : List ℕ). written x (a.to + 2 * (l.i + 1)) (word_bytes (drop (l.i + 1) a.words.now))) w
          ∙ words_step l.buf a.words.now a.to l.i (search rules) (omega arith) ∙ l.invariant.1,
    )

pub returns : goal.returns
returns c =
    let a = c.args in
    let l = c.loop-i in
    sym (written-empty l.buf (drop l.i a.words.now) (a.to + 2 * l.i) (drop_of_length-le a.words.now {i = l.i} (omega arith))) ∙ l.invariant.1
