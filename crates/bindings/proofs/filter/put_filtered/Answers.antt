-- `filter::put_filtered`: N, S, the requested bindings and the rest, one after the other.
use Prim.Native.Nat.{◌+◌, ◌-◌, ◌<◌}
use mathlib.Core.Path.{◌≡◌, sym, ap, ◌∙◌}
use native.Mathlib.Omega.{arith}
use lib.ListN.{length}
use Rattle.fields.specs.Fields.{written, Bytes}
use Rattle.fields.proofs.Fields.{length-written}
use Rattle.bindings.specs.Bindings.{count, list_length}
use Rattle.bindings.proofs.ListAnswers.{accepted}
use Rattle.bindings.proofs.FilterWriting.{no_words, filtered-size, filtered-written, filtered-count}
use Rattle.bindings.proofs.filter.put_filtered.Goals as goal

pub returns-then-n-eq0 : goal.returns-then-n-eq0
returns-then-n-eq0 c =
    c.copy.ensures ∙ ap (written c.args.buf.now 0) (sym (no_words _ _ c.requires.0 (sym c.read_u16-n.ensures ∙ c.if-n-eq0.true)))

pub requested_words-kept-requires : goal.requested_words-kept-requires
unfolding list_length
requested_words-kept-requires c = let h = accepted _ c.requires.0 in omega arith

pub put_requested-requires : goal.put_requested-requires
unfolding list_length
put_requested-requires c =
    let some : count c.args.s.now ≡ 0 → ⊥ = λ z. c.if-n-eq0.false (c.read_u16-n.ensures ∙ z) in
    let h = accepted _ c.requires.0 in
    let room = c.requires.1 in
    let k = c.read_u16-k.ensures in
    let z = rw (← k) at (filtered-size c.args.protocols.now _ c.requires.0 (some)) in
    let l₁ = simp length-written at (ap length c.write_u16.ensures) in
    let l₂ = simp length-written at (ap length c.write_u16-2.ensures) in
    (omega arith, omega arith)

pub slice_bounds-copy-count : goal.slice_bounds-copy-count
unfolding list_length
slice_bounds-copy-count c = let h = accepted _ c.requires.0 in omega arith

pub slice_bounds-copy-start : goal.slice_bounds-copy-start
unfolding list_length
slice_bounds-copy-start c = let h = accepted _ c.requires.0 in omega arith

pub returns : goal.returns
returns c =
    let some : count c.args.s.now ≡ 0 → ⊥ = λ z. c.if-n-eq0.false (c.read_u16-n.ensures ∙ z) in
    let bytes : Bytes c.args.s.now = λ i. omega (arith, c.type_inv.s i) in
    filtered-written _ _ c.requires.0 some bytes _ _ _ c.read_u16-n.ensures c.read_u16-k.ensures c.requested_words-kept.ensures.0
    c.args.buf.now _ _ _ _ c.requires.1 c.write_u16.ensures c.write_u16-2.ensures
    c.put_requested.ensures c.copy-2.ensures

pub overflow_sub-n : goal.overflow_sub-n
overflow_sub-n c = let h = accepted _ c.requires.0 in omega arith

pub overflow_cast-kept : goal.overflow_cast-kept
overflow_cast-kept c =
    let some : count c.args.s.now ≡ 0 → ⊥ = λ z. c.if-n-eq0.false (c.read_u16-n.ensures ∙ z) in
    let bytes : Bytes c.args.s.now = λ i. omega (arith, c.type_inv.s i) in
    let few : c.requested_words-kept.result + 1 + (c.read_u16-n.result - c.read_u16-k.result) < 65536 =
    filtered-count _ _ c.requires.0 some bytes _ _ _ c.read_u16-n.ensures c.read_u16-k.ensures c.requested_words-kept.ensures.0 in
    let h = few in omega arith

pub overflow_cast-kept-2 : goal.overflow_cast-kept-2
overflow_cast-kept-2 c =
    let some : count c.args.s.now ≡ 0 → ⊥ = λ z. c.if-n-eq0.false (c.read_u16-n.ensures ∙ z) in
    let bytes : Bytes c.args.s.now = λ i. omega (arith, c.type_inv.s i) in
    let few : c.requested_words-kept.result + 1 + (c.read_u16-n.result - c.read_u16-k.result) < 65536 =
    filtered-count _ _ c.requires.0 some bytes _ _ _ c.read_u16-n.ensures c.read_u16-k.ensures c.requested_words-kept.ensures.0 in
    let h = few in omega arith
