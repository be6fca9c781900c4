-- `table_judge::objects_sound`: the clauses of the objects in turn.
use mathlib.Core.Path.{◌≡◌, refl}
use mathlib.Core.List.{List}
use Prim.Native.Nat.{ℕ}
use lib.Dec.{leb}
use Rattle.rules.specs.Entries.{Entries}
use Rattle.rules.specs.Sound.{heard_before}
use Rattle.table_view.specs.View.{memory, view}
use Rattle.table_view.proofs.Columns.{heard-column, column-read}
use Rattle.table_judge.proofs.Clauses.{judged-fails, judged-passes, judged-last, column-test}
use Rattle.table_judge.proofs.objects_sound.Goals as goal

pub returns : goal.returns
returns c =
    let heard-judged : (s : List ℕ) → c.all_at_most.result ≡ heard_before (view (memory c.args.words.now s)) =
    λ s. let ws = c.args.words.now in
    let e : Entries = view (memory ws s) in
    let times = column-read ws 640 c.column-times.ensures c.object_count-objects.ensures.0 (heard-column ws c.requires) in
    column-test (λ o. o.heard) e.objects times (λ t. leb t e.clock) c.all_at_most.ensures in
    λ s. judged-last (judged-passes _ refl (heard-judged s) c.if-not-all_at_most.false-raw) (c.heard_recently.ensures s)

pub returns-then-not-all_at_most : goal.returns-then-not-all_at_most
returns-then-not-all_at_most c =
    let heard-judged : (s : List ℕ) → c.all_at_most.result ≡ heard_before (view (memory c.args.words.now s)) =
    λ s. let ws = c.args.words.now in
    let e : Entries = view (memory ws s) in
    let times = column-read ws 640 c.column-times.ensures c.object_count-objects.ensures.0 (heard-column ws c.requires) in
    column-test (λ o. o.heard) e.objects times (λ t. leb t e.clock) c.all_at_most.ensures in
    λ s. judged-fails _ refl (heard-judged s) c.if-not-all_at_most.true-raw
