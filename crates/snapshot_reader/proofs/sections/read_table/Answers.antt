-- `sections::read_table`: too many bytes and another count are no snapshot; else the sections decide.
use mathlib.Core.Path.{sym, ap, ◌∙◌}
use native.Mathlib.Omega.{arith}
use Rattle.rules.specs.Entries.{fresh, with_next}
use Rattle.snapshot_reader.proofs.sections.Refused.{too_long_lem, other-count, table-refused}
use Rattle.snapshot_reader.proofs.sections.read_table.Goals as goal

pub returns-then-read_u16-ne2 : goal.returns-then-read_u16-ne2
returns-then-read_u16-ne2 c = let s = c.args.s.now in table-refused s _ (other-count s (λ z. c.if-read_u16-ne2.true (c.read_u16.ensures ∙ z)))

pub read_sections-requires : goal.read_sections-requires
read_sections-requires c =
    let store = c.args.store.now in
    let n = c.read_u64-2 in (
      omega arith,
      c.requires.1,
      c.if-s-gt-LONGEST_SNAPSHOT.false,
      c.within.ensures,
      sym c.read_u16.ensures ∙ c.if-read_u16-ne2.false,
      c.set_next.ensures store
          ∙ ap (with_next n.result) (c.clear.ensures store)
          ∙ (λ u. with_next (n.ensures u) (fresh (c.read_u64.ensures u))),
    )

pub returns-then-s-gt-LONGEST_SNAPSHOT : goal.returns-then-s-gt-LONGEST_SNAPSHOT
returns-then-s-gt-LONGEST_SNAPSHOT c = let s = c.args.s.now in table-refused s _ (too_long_lem s c.if-s-gt-LONGEST_SNAPSHOT.true)

pub returns : goal.returns
returns c = rw c.is_some.ensures c.read_sections.ensures
