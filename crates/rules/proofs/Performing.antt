-- How a call is shown to be performed: refused by 1, or accepted where it looks at the lengths only.
use Prim.Native.Nat.{ℕ}
use mathlib.Core.Path.{◌≡◌, refl, sym, ◌∙◌}
use mathlib.Core.Bool.{true, false}
use native.Mathlib.Omega.{arith}
use borrow.Author.Tests.{eq-eqb}
use lib.ListN.{length}
use Rattle.rules.specs.Entries.{Entries}
use Rattle.rules.specs.Calls.{Call, Reply}
use Rattle.rules.specs.Rules.{number, next, refused_reply, accepted_reply, reply}
use Rattle.rules.specs.Contract.{Memory, Whole, lengths_only, sound_memory, fit, reply_to, Performed}

pub refused-number : (n : ℕ) (c : Call) (e : Entries) → (refused_reply n c e).number ≡ n
unfolding refused_reply
refused-number n c e = refl

pub accepted-number : (c : Call) (e : Entries) → (accepted_reply c e).number ≡ 0
unfolding accepted_reply
accepted-number c e = refl

module _ (view : Memory → Entries) (c : Call) (m : Memory) where
  -- the table is refused
  reply-unfit : fit view c m ≡ false → refused_reply 1 c (view m) ≡ reply_to view c m
  unfolding reply_to
  reply-unfit h = rw h

  reply-accepted : fit view c m ≡ true → number c (view m) ≡ 0 → accepted_reply c (view m) ≡ reply_to view c m
  unfolding reply_to reply
  reply-accepted h e = rw (h, e)

  -- a refusal leaves what was lent
  kept-refusal : (r : Reply) → (r.number ≡ 0 → ⊥) → r ≡ reply_to view c m → Performed view c m r m
  kept-refusal r z e = record { answered = e; kept = λ h. refl; sound_after = λ h. absurd (z h); became = λ h. absurd (z h) }

  pub unfit : fit view c m ≡ false → Performed view c m (refused_reply 1 c (view m)) m
  unfit h = kept-refusal (refused_reply 1 c (view m)) (λ e. omega (arith, sym (refused-number 1 c (view m)) ∙ e)) (reply-unfit h)

  pub accepted : (m' : Memory) → fit view c m ≡ true → number c (view m) ≡ 0 → sound_memory view m' ≡ true → view m' ≡ next c (view m) → Performed view c m (accepted_reply c (view m)) m'
  accepted m' h e s v =
      record { answered = reply-accepted h e; kept = λ z. absurd (z (accepted-number c (view m))); sound_after = λ z. s; became = λ z. v }

  -- ---- of a call that looks at the lengths only

  pub fit-lengths : lengths_only c ≡ true → Whole m.words → Whole m.store → fit view c m ≡ true
  unfolding fit
  fit-lengths h w b = rw (eq-eqb (length m.words) 8192 w, eq-eqb (length m.store) 8192 b, h)

  -- ---- of a call that looks at more than the lengths

  pub fit-sound : lengths_only c ≡ false → fit view c m ≡ sound_memory view m
  unfolding fit sound_memory
  fit-sound h = rw h

  pub unsound : lengths_only c ≡ false → sound_memory view m ≡ false → Performed view c m (refused_reply 1 c (view m)) m
  unsound l h = unfit (fit-sound l ∙ h)
