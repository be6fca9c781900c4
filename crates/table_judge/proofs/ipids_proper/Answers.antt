-- `table_judge::ipids_proper`: the interfaces' identifiers are proper, and the remote unknowns' before them.
use Prim.Native.Nat.{ℕ, ◌≤◌}
use mathlib.Core.Path.{◌≡◌, refl, sym, ap, ◌∙◌}
use mathlib.Core.Bool.{Bool}
use mathlib.Core.List.{List, [], map}
use native.Mathlib.Omega.{arith}
use lib.ListN.{take, drop}
use Rattle.kinds.specs.declared.Guid.{Guid}
use Rattle.lists.proofs.Lists.{every-nil}
use Rattle.lists.proofs.Distinct.{distinct_none}
use Rattle.lists.specs.Guids.{nil, same_guid}
use Rattle.table_columns.specs.Guids.{guids}
use Rattle.table_columns.proofs.GuidColumns.{guids-end}
use Rattle.rules.specs.Entries.{Entries, Exporter, interface_ipids}
use Rattle.rules.specs.Sound.{proper_guids}
use Rattle.rules.specs.Contract.{Whole}
use Rattle.identifiers.specs.Index.{Entered}
use Rattle.table_view.specs.View.{memory, view, interface_count}
use Rattle.table_view.proofs.Columns.{unknowns-columns, ipids-columns, guids-read}
use Rattle.identifiers.proofs.Guids.{entered-alone, later-indexed}
use Rattle.rules.proofs.Groups.{fine-distinct}
use Rattle.table_judge.proofs.Clauses.{column-short, leaves-not, second-not, both-proper}
use Rattle.table_judge.proofs.ipids_proper.Goals as goal

-- the live entries, with any store
abbrev At : List ℕ → List ℕ → Entries
At ws s = view (memory ws s)

abbrev unknowns : List ℕ → List ℕ → List Guid
unknowns ws s = map (λ (x : Exporter). x.unknown) (At ws s).exporters

-- no GUID stands behind the m ones
none-later : (ws : List ℕ) (m : ℕ) {lows : List ℕ} (highs : List ℕ) → lows ≡ take m (drop 768 ws) → drop m (guids lows highs) ≡ []
none-later ws m highs e = let h : m ≤ m = omega arith in guids-end _ highs m (column-short ws 768 e h)

module _ (ws : List ℕ) {m : ℕ} {lows highs : List ℕ} (e : lows ≡ take m (drop 768 ws)) (f : highs ≡ take m (drop 1024 ws)) (n : m ≡ interface_count ws)
    (whole : Whole ws) (s : List ℕ) where
  -- they are the interfaces' IPIDs
  ipids-read : guids lows highs ≡ interface_ipids (At ws s)
  ipids-read = guids-read ws 768 1024 e f n (ipids-columns ws whole)

  -- which are judged first
  ipids-judged : {rows : List ℕ} {r : Bool} → Entered lows highs lows highs m rows r → r ≡ proper_guids (interface_ipids (At ws s))
  ipids-judged p = (entered-alone (none-later ws m highs e) p).0 ∙ ap proper_guids ipids-read

pub enter_guids-requires : goal.enter_guids-requires
enter_guids-requires c =
    let e = none-later c.args.words.now _ c.column-highs.result.now c.column-lows.ensures in
    record { size = c.requires.1; alike = λ i h. refl; each = rw e (every-nil _); differ = rw e (distinct_none same_guid) }

pub enter_guids-requires-2 : goal.enter_guids-requires-2
enter_guids-requires-2 c =
    let p = c.enter_guids.ensures in
    let e = entered-alone (none-later c.args.words.now _ c.column-highs.result.now c.column-lows.ensures) p in
    let t = c.if-not-enter_guids.false in
    record { size = p.size; alike = λ i h. absurd (omega arith); each = e.1 t; differ = fine-distinct same_guid nil _ (sym e.0 ∙ t) }

pub returns-then-not-enter_guids : goal.returns-then-not-enter_guids
returns-then-not-enter_guids c =
    let ws = c.args.words.now in (
      λ s. second-not (unknowns ws s) (interface_ipids (At ws s))
          (sym (ipids-judged ws c.column-lows.ensures c.column-highs.ensures c.interface_count-m.ensures.0 c.requires.0 s c.enter_guids.ensures) ∙ c.if-not-enter_guids.true),
      leaves-not,
    )

pub returns : goal.returns
returns c =
    let ws = c.args.words.now in
    let read = ipids-read ws c.column-lows.ensures c.column-highs.ensures c.interface_count-m.ensures.0 c.requires.0 in
    let p = c.enter_guids-2.ensures in (
      λ s. both-proper (unknowns ws s) (interface_ipids (At ws s))
          (sym (ipids-judged ws c.column-lows.ensures c.column-highs.ensures c.interface_count-m.ensures.0 c.requires.0 s c.enter_guids.ensures) ∙ c.if-not-enter_guids.false)
          (rw
          (guids-read ws 32 48 c.column-unknown_lows.ensures c.column-unknown_highs.ensures c.exporter_count-n.ensures.0 (unknowns-columns ws c.requires.0 s), read s)
          at p.judged),
      record { index = λ t. rw (read []) at (later-indexed p t) },
    )
