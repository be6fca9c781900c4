-- `filter::requested_towers`: the towers that are put and those of the bindings that are left make the whole.
use Prim.Native.Nat.{ℕ, ◌<◌}
use mathlib.Core.Bool.{true, false}
use native.Mathlib.Numerals.{add-one}
use lib.Seq.{take-suc-set}
use mathlib.Core.Path.{◌≡◌, refl, sym, ap, ◌∙◌}
use mathlib.Core.List.{List, [], ◌∷◌, ◌++◌, append_assoc, append-nil}
use native.Mathlib.Omega.{arith}
use lib.ListN.{length, take, length-set}
use Rattle.fields.specs.Fields.{field}
use Rattle.lists.specs.Lists.{among}
use Rattle.bindings.specs.Bindings.{words, list_length}
use Rattle.bindings.specs.Filter.{towers_of, is_marked}
use Rattle.bindings.specs.declared.Walk.{Walk}
use Rattle.bindings.proofs.ListAnswers.{accepted}
use Rattle.bindings.proofs.Walks.{strings-first, still-strings}
use Rattle.bindings.proofs.FilterLoops.{left_towers, towers-taken, towers-ended}
use Rattle.bindings.proofs.filter.requested_towers.Goals as goal

pub invariant_of-binding-items : goal.invariant_of-binding-items
unfolding list_length
invariant_of-binding-items c =
    let list = accepted _ c.requires.0 in
    let k = c.read_u16.ensures in
    record { there = omega arith }

pub loop-binding-init : goal.loop-binding-init
loop-binding-init c =
    let s = c.args.s.now in
    let e = c.into_iter-binding-iterator.ensures.into_iter_gives in
    let k = c.read_u16.ensures in
    let left = ap (λ (w : Walk). w.left) e in
    let room = c.requires.1 in (
      strings-first s _ _ e refl refl,
      refl,
      omega arith,
      λ ps m. ap (left_towers ps s) e ∙ ap (λ (k : ℕ). towers_of ps (words s 4 k)) k,
    )

pub loop-binding-preserved-then-is_marked : goal.loop-binding-preserved-then-is_marked
loop-binding-preserved-then-is_marked c =
    let s = c.args.s.now in
    let l = c.loop-binding in
    let t = c.in-Some.ensures.steps in
    let x : ℕ = field s c.in-Some.binding.start 2 in
    let word : c.word-tower.result ≡ x = c.word-tower.ensures in
    let room : l.n < length l.towers = omega (arith, t.some) in
    let size = length-set l.towers l.n c.word-tower.result in (
      still-strings s _ _ _ l.invariant.0 t,
      size ∙ l.invariant.1,
      rw size (omega (arith, t.left, t.least, t.most)),
      λ ps marked.
          let wanted : among ps x ≡ true = sym (c.is_marked.ensures ∙ ap (is_marked c.args.marks.now) word ∙ marked.each x) ∙ c.if-is_marked.true in
          let rest = left_towers ps s c.next.new.self in
          let more : (x ∷ []) ++ rest ≡ left_towers ps s l.binding-iterator = rw wanted at (towers-taken ps s _ _ _ l.invariant.0 t) in
          rw (add-one l.n, take-suc-set l.towers l.n c.word-tower.result room, word)
          (append_assoc (take l.n l.towers) (x ∷ []) rest ∙ ap (λ (ts : List ℕ). take l.n l.towers ++ ts) more ∙ l.invariant.3 ps marked),
    )

pub loop-binding-preserved : goal.loop-binding-preserved
loop-binding-preserved c =
    let s = c.args.s.now in
    let l = c.loop-binding in
    let t = c.in-Some.ensures.steps in
    let x : ℕ = field s c.in-Some.binding.start 2 in (
      still-strings s _ _ _ l.invariant.0 t,
      omega arith,
      omega (arith, t.left),
      λ ps marked.
          let unwanted : among ps x ≡ false = sym (c.is_marked.ensures ∙ ap (is_marked c.args.marks.now) c.word-tower.ensures ∙ marked.each x) ∙ c.if-is_marked.false in
          let same = rw unwanted at (towers-taken ps s _ _ _ l.invariant.0 t) in
          ap (λ (ts : List ℕ). take l.n l.towers ++ ts) same ∙ l.invariant.3 ps marked,
    )

pub returns : goal.returns
returns c =
    let l = c.loop-binding in (
      omega arith,
      λ ps m. sym (append-nil (take l.n l.towers))
          ∙ ap (λ (ts : List ℕ). take l.n l.towers ++ ts) (sym (towers-ended ps c.args.s.now _ _ l.invariant.0 c.in-None.ensures.steps)) ∙ l.invariant.3 ps m,
    )
