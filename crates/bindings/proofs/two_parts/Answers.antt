-- `bindings::two_parts`: the tests of `two_parts`.
use Prim.Native.Nat.{◌<◌, ◌≤◌}
use mathlib.Core.Path.{◌≡◌, sym, ◌∙◌}
use mathlib.Core.Bool.{true, false}
use native.Mathlib.Omega.{arith}
use borrow.Author.Rules.{rules}
use borrow.Author.Tests.{le-leb, lt-leb}
use Rattle.bindings.specs.Bindings.{words, is_part, count, split, is_bare, two_parts, list_length}
use Rattle.bindings.specs.declared.Part.TheVariants.{Strings}
use Rattle.bindings.proofs.ListAnswers.{not-bare}
use Rattle.bindings.proofs.two_parts.Goals as goal

pub returns-else-k-n : goal.returns-else-k-n
unfolding two_parts
returns-else-k-n c =
    let s = c.args.s.now in
    let h : count s < split s = omega arith in
    rw (not-bare s (λ n k. omega arith), lt-leb _ _ c.if-k-n.false, lt-leb (split s) (count s) h)

pub returns-then-n-eq0 : goal.returns-then-n-eq0
unfolding two_parts
returns-then-n-eq0 c =
    let s = c.args.s.now in
    let n : count s ≡ 0 = omega arith in
    let k : split s ≡ 0 = omega arith in
    rw (c.if-n-eq0.true, n, k)

pub is_part-requires : goal.is_part-requires
unfolding list_length
is_part-requires c = search rules

pub is_part-requires-then-is_part : goal.is_part-requires-then-is_part
unfolding list_length
is_part-requires-then-is_part c = search rules

pub returns-then-is_part : goal.returns-then-is_part
unfolding two_parts
returns-then-is_part c =
    let words-here : is_bare c.args.s.now ≡ false = not-bare _ (λ n k. c.if-n-eq0.false (omega arith)) in
    let s = c.args.s.now in
    let n = c.read_u16-n.ensures in
    let k = c.read_u16-k.ensures in
    let h : split s ≤ count s = omega arith in
    let e : is_part Strings (words s 4 (split s)) ≡ true = rw (← k) (sym c.is_part.ensures ∙ c.if-is_part.true) in
    rw (words-here, le-leb (split s) (count s) h, e, ← n, ← k) c.is_part-then-is_part.ensures

pub returns-else-is_part : goal.returns-else-is_part
unfolding two_parts
returns-else-is_part c =
    let words-there : is_bare c.args.s.now ≡ false = not-bare _ (λ n k. c.if-n-eq0.false (omega arith)) in
    let s = c.args.s.now in
    let k = c.read_u16-k.ensures in
    let h : split s ≤ count s = omega arith in
    let e : is_part Strings (words s 4 (split s)) ≡ false = rw (← k) (sym c.is_part.ensures ∙ c.if-is_part.false) in
    rw (words-there, le-leb (split s) (count s) h, e) c.if-is_part.false
