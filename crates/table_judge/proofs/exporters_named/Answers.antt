-- `table_judge::exporters_named`: the OXIDs are proper, then each object's exporter is looked up by their index.
use Prim.Native.Nat.{ℕ}
use mathlib.Core.Path.{◌≡◌, refl, ap, ◌∙◌}
use mathlib.Core.List.{List}
use native.Mathlib.Omega.{arith}
use borrow.Author.Rules.{rules}
use Rattle.rules.specs.Entries.{Entries, oxids}
use Rattle.rules.specs.Sound.{proper, object_exporters_live}
use Rattle.table_view.specs.View.{memory, view}
use Rattle.table_view.proofs.Columns.{oxids-column, object-exporters-column, column-read}
use Rattle.table_judge.proofs.Clauses.{judged-fails, judged-passes, judged-last, column-in, column-short}
use Rattle.table_judge.proofs.exporters_named.Goals as goal

-- the live entries, with any store
abbrev At : List ℕ → List ℕ → Entries
At ws s = view (memory ws s)

pub note-requires : goal.note-requires
note-requires c =
    let ws = c.args.words.now in
    let e = column-short ws 16 c.column-oxids.ensures c.exporter_count-exporters.ensures.1 in (search rules, omega arith)

pub returns : goal.returns
returns c =
    let oxids-read : (s : List ℕ) → c.column-oxids.result.now ≡ oxids (At c.args.words.now s) =
    λ s. let ws = c.args.words.now in
    column-read ws 16 c.column-oxids.ensures c.exporter_count-exporters.ensures.0 (oxids-column ws c.requires s) in
    let proper-judged : (s : List ℕ) → c.note.result ≡ proper (oxids (At c.args.words.now s)) = λ s. c.note.ensures.judged ∙ ap proper (oxids-read s) in
    let live-judged : (s : List ℕ) → c.all_found.result ≡ object_exporters_live (At c.args.words.now s) =
    λ s. let ws = c.args.words.now in
    let owners = column-read ws 384 c.column-owners.ensures c.object_count-objects.ensures.0 (object-exporters-column ws c.requires) in
    column-in (λ o. o.exporter) (At c.args.words.now s).objects owners (oxids-read s) c.all_found.ensures in
    λ s. judged-last (judged-passes _ refl (proper-judged s) c.if-not-note.false-raw) (live-judged s)

pub returns-then-not-note : goal.returns-then-not-note
returns-then-not-note c =
    let oxids-read : (s : List ℕ) → c.column-oxids.result.now ≡ oxids (At c.args.words.now s) =
    λ s. let ws = c.args.words.now in
    column-read ws 16 c.column-oxids.ensures c.exporter_count-exporters.ensures.0 (oxids-column ws c.requires s) in
    let proper-judged : (s : List ℕ) → c.note.result ≡ proper (oxids (At c.args.words.now s)) = λ s. c.note.ensures.judged ∙ ap proper (oxids-read s) in
    λ s. judged-fails _ refl (proper-judged s) c.if-not-note.true-raw

pub all_found-requires : goal.all_found-requires
all_found-requires c = c.note.ensures.indexed c.if-not-note.false
