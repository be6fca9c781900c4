-- `table_judge::objects_named`: the OIDs are proper, then the objects of the interfaces are paired with them by their index.
use Prim.Native.Nat.{ℕ}
use mathlib.Core.Path.{◌≡◌, refl, sym, ap, ◌∙◌}
use mathlib.Core.Bool.{◌&&◌}
use mathlib.Core.List.{List}
use native.Mathlib.Omega.{arith}
use borrow.Author.Rules.{rules}
use lib.Dec.{eqb}
use Rattle.lists.specs.Lists.{every, among}
use Rattle.rules.specs.Entries.{Entries, oids}
use Rattle.rules.specs.Sound.{proper, interface_objects_live, objects_have_interfaces}
use Rattle.rules.proofs.Groups.{serving-objects, fine-distinct}
use Rattle.table_view.specs.View.{memory, view}
use Rattle.table_view.proofs.Columns.{oids-column, interface-objects-column, column-read}
use Rattle.table_judge.proofs.Clauses.{judged-fails, judged-passes, judged-both, column-in, column-short}
use Rattle.table_judge.proofs.objects_named.Goals as goal

-- the live entries, with any store
abbrev At : List ℕ → List ℕ → Entries
At ws s = view (memory ws s)

pub note-requires : goal.note-requires
note-requires c =
    let ws = c.args.words.now in
    let e = column-short ws 256 c.column-oids.ensures c.object_count-objects.ensures.1 in (search rules, omega arith)

pub all_paired-requires : goal.all_paired-requires
all_paired-requires c =
    let n = c.note.ensures in
    let t = c.if-not-note.false in
    let ws = c.args.words.now in
    let e = column-short ws 256 c.column-oids.ensures c.object_count-objects.ensures.1 in
    (n.indexed t, fine-distinct eqb 0 _ (sym n.judged ∙ t), omega arith)

pub returns : goal.returns
returns c =
    let oids-read : (s : List ℕ) → c.column-oids.result.now ≡ oids (At c.args.words.now s) =
    λ s. let ws = c.args.words.now in
    column-read ws 256 c.column-oids.ensures c.object_count-objects.ensures.0 (oids-column ws c.requires) in
    let proper-judged : (s : List ℕ) → c.note.result ≡ proper (oids (At c.args.words.now s)) = λ s. c.note.ensures.judged ∙ ap proper (oids-read s) in
    let paired-judged : (s : List ℕ) → c.all_paired.result ≡ (interface_objects_live (At c.args.words.now s) && objects_have_interfaces (At c.args.words.now s)) =
    λ s. let ws = c.args.words.now in
    let live = oids-read s in
    let named = column-read ws 1792 c.column-named.ensures c.interface_count-interfaces.ensures.0 (interface-objects-column ws c.requires) in
    let first = column-in (λ i. i.object) (At c.args.words.now s).interfaces named live refl in
    let second = (λ u. every (among (named u)) (live u)) ∙ serving-objects (At c.args.words.now s).objects (At c.args.words.now s).interfaces in
    c.all_paired.ensures ∙ (λ u. first u && second u) in
    λ s. judged-both _ _ (judged-passes _ refl (proper-judged s) c.if-not-note.false-raw) (paired-judged s)

pub returns-then-not-note : goal.returns-then-not-note
returns-then-not-note c =
    let oids-read : (s : List ℕ) → c.column-oids.result.now ≡ oids (At c.args.words.now s) =
    λ s. let ws = c.args.words.now in
    column-read ws 256 c.column-oids.ensures c.object_count-objects.ensures.0 (oids-column ws c.requires) in
    let proper-judged : (s : List ℕ) → c.note.result ≡ proper (oids (At c.args.words.now s)) = λ s. c.note.ensures.judged ∙ ap proper (oids-read s) in
    λ s. judged-fails _ refl (proper-judged s) c.if-not-note.true-raw
