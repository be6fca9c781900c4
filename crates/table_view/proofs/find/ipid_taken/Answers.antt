-- `find::ipid_taken`: nil, or in one of the two pairs of columns.
use Prim.Native.Nat.{ℕ}
use mathlib.Core.Path.{◌≡◌, sym, ap, ◌∙◌}
use mathlib.Core.Bool.{Bool}
use mathlib.Core.List.{List, map}
use lib.ListN.{length, take, drop}
use Rattle.kinds.specs.declared.Guid.{Guid}
use Rattle.lists.specs.Lists.{some}
use Rattle.lists.specs.Guids.{same_guid}
use Rattle.lists.proofs.Lists.{some-append}
use Rattle.table_columns.specs.Guids.{guids}
use Rattle.rules.specs.Entries.{Exporter}
use Rattle.table_view.specs.View.{exporter_count, exporters_of}
use Rattle.table_view.proofs.Columns.{guids-read, unknowns-columns, ipids-read}
use Rattle.table_view.proofs.find.ipid_taken.Goals as goal

-- whether an IPID is that of a remote-unknown interface, as two columns say
unknown_read : (ws s : List ℕ) (g : Guid) → length ws ≡ 8192 → {n : ℕ} {lows highs : List ℕ} {r : Bool} → lows ≡ take n (drop 32 ws) → highs ≡ take n (drop 48 ws)
    → n ≡ exporter_count ws → r ≡ some (same_guid g) (guids lows highs) → r ≡ some (same_guid g) (map (λ (x : Exporter). x.unknown) (exporters_of ws s))
unknown_read ws s g size l h n e = e ∙ ap (some (same_guid g)) (guids-read ws 32 48 l h n (unknowns-columns ws size s))

pub returns-then-is_nil : goal.returns-then-is_nil
returns-then-is_nil c s = rw (sym c.is_nil.ensures ∙ c.if-is_nil.true)

pub returns-then-has_guid : goal.returns-then-has_guid
returns-then-has_guid c s =
    let here = unknown_read c.args.words.now s c.args.ipid c.requires c.column-lows.ensures c.column-highs.ensures c.exporter_count-n.ensures.0 c.has_guid.ensures in
    c.if-has_guid.true ∙ sym (rw (sym c.is_nil.ensures ∙ c.if-is_nil.false, some-append, sym here ∙ c.if-has_guid.true))

pub returns-else-has_guid : goal.returns-else-has_guid
returns-else-has_guid c s =
    let ws = c.args.words.now in
    let g = c.args.ipid in
    let none = unknown_read ws s g c.requires c.column-lows.ensures c.column-highs.ensures c.exporter_count-n.ensures.0 c.has_guid.ensures in
    rw (sym c.is_nil.ensures ∙ c.if-is_nil.false, some-append, sym none ∙ c.if-has_guid.false)
    (c.has_guid-else-has_guid.ensures ∙ ap (some (same_guid g)) (ipids-read ws c.requires c.ipid_lows.ensures c.ipid_highs.ensures))
