-- `Property::read`: a refusal, or the fields before the data.
use Prim.Native.Nat.{◌-◌, ◌≤◌}
use mathlib.Core.Path.{◌≡◌, refl, sym, ap}
use native.Mathlib.Omega.{arith}
use borrow.Author.Tests.{eq-eqb, ne_eqb}
use lib.ListN.{length}
use borrow.Author.Rules.{rules}
use Rattle.std.specs.Prelude.{Err}
use Rattle.kinds.proofs.Answering.{refusal-some}
use Rattle.fields.proofs.Fields.{take_rest}
use Rattle.bindings.specs.declared.Place.{Place}
use Rattle.contexts.specs.Contexts.{no_property, read_property}
use Rattle.contexts.proofs.Properties.{property-within, property-after}
use Rattle.contexts.proofs.Property.read.Goals as goal

pub returns-in_err-place : goal.returns-in_err-place
unfolding read_property
returns-in_err-place c =
    let e = c.in_err-place.ensures in
    let n = ap (λ (x : Place). x.answer) e in
    let r : c.from_residual.result ≡ Err c.in_err-place.field-0.0 = search rules in
    rw r (rw (ne_eqb _ _ (refusal-some _ n)) (λ u. record { answer = n u; property = no_property }))

pub returns : goal.returns
unfolding read_property
returns c =
    let e = c.in_ok-place.ensures in
    let s = c.args.s.now in
    let n = ap (λ (x : Place). x.answer) e in
    let from = ap (λ (x : Place). x.from) e in
    let p = rw (take_rest s _, from) at c.fields.ensures in
    rw (eq-eqb _ _ (sym n)) (λ u. record { answer = 0; property = p u })

pub overflow_sub-place : goal.overflow_sub-place
overflow_sub-place c =
    let after : 40 ≤ c.in_ok-place.place.start =
    let e = c.in_ok-place.ensures in
    let n = ap (λ (x : Place). x.answer) e in
    let from = ap (λ (x : Place). x.from) e in
    let h = property-after _ _ (sym n) in
    omega arith in
    after

pub slice_bounds-fields-count : goal.slice_bounds-fields-count
slice_bounds-fields-count c =
    let inside : c.in_ok-place.place.start - 40 ≤ length c.args.s.now =
    let e = c.in_ok-place.ensures in
    let from = ap (λ (x : Place). x.from) e in
    let to = ap (λ (x : Place). x.to) e in
    let h = property-within c.args.s.now c.args.k in
    omega arith in
    inside

pub slice_bounds-fields-start : goal.slice_bounds-fields-start
slice_bounds-fields-start c =
    let inside : c.in_ok-place.place.start - 40 ≤ length c.args.s.now =
    let e = c.in_ok-place.ensures in
    let from = ap (λ (x : Place). x.from) e in
    let to = ap (λ (x : Place). x.to) e in
    let h = property-within c.args.s.now c.args.k in
    omega arith in
    inside
