-- `Context::write`: the head and the properties are a run of writes from the front.
use Prim.Native.Nat.{ℕ, ◌+◌, ◌≤◌}
use mathlib.Core.Path.{◌≡◌, refl, sym, ◌∙◌}
use mathlib.Core.List.{List}
use native.Mathlib.Omega.{arith}
use borrow.Author.Tests.{eq-eqb, ne_eqb}
use lib.ListN.{length}
use borrow.Author.Rules.{rules}
use Rattle.std.specs.Prelude.{Err}
use Rattle.kinds.proofs.Answering.{refusal-some, refusal-eqb}
use Rattle.fields.specs.Fields.{written}
use Rattle.fields.proofs.Fields.{first-bytes, then-bytes}
use Rattle.contexts.specs.Contexts.{head_bytes, context_bytes, write_context_answer, write_context}
use Rattle.contexts.specs.declared.Context.{Context}
use Rattle.contexts.proofs.Properties.{length-head, context-room}
use Rattle.contexts.proofs.Context.write.Goals as goal

pub returns-in_err-judge : goal.returns-in_err-judge
unfolding write_context
returns-in_err-judge c =
    let number = c.in_err-judge.ensures in
    let r : c.from_residual.result ≡ Err c.in_err-judge.field-0.0 = search rules in
    rw r (simp (ne_eqb _ _ (refusal-some _ number)) (λ u. record { answer = number u; length = 0 }), simp (refusal-eqb c.in_err-judge.field-0.0))

module _ (x : Context) (ps b : List ℕ) (judged : 0 ≡ write_context_answer x ps (length b)) where
  answered : record { answer = 0; length = 48 + length ps } ≡ write_context x ps (length b)
  unfolding write_context
  answered = simp (eq-eqb _ _ (sym judged))

  head-room : 48 ≤ length b
  head-room = let room = context-room _ _ _ (sym judged) in omega arith

  -- the writes in a row
  context-written : (b₁ b₂ : List ℕ) → b₁ ≡ written b 0 (head_bytes x) → b₂ ≡ written b₁ 48 ps → b₂ ≡ written b 0 (context_bytes x ps)
  unfolding context_bytes
  context-written b₁ b₂ head properties =
      let room = context-room _ _ _ (sym judged) in
      (then-bytes ps (length ps) (first-bytes (head_bytes x) 48 (length-head x) head) refl (omega arith) properties).holds

pub write_head-requires : goal.write_head-requires
write_head-requires c = let judged = c.in_ok-judge.ensures in search head-room

pub returns : goal.returns
returns c = let judged = c.in_ok-judge.ensures in (search answered, search context-written)
