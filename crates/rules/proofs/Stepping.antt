-- How a call comes of a step: the rules refuse a step or accept it, and a call on a sound table is its step.
use Prim.Native.Nat.{ℕ}
use mathlib.Core.Path.{◌≡◌, refl, sym, subst, ap, ◌∙◌}
use mathlib.Core.Bool.{true, false}
use mathlib.Core.Logic.{⊎_elim}
use borrow.Author.Tests.{ne_eqb}
use lib.ListN.{length}
use Rattle.lists.proofs.Tests.{same_or_not}
use Rattle.rules.specs.Entries.{Entries}
use Rattle.rules.specs.Calls.{Call, Reply}
use Rattle.rules.specs.Sound.{sound}
use Rattle.rules.specs.Rules.{number, next, refused_reply, accepted_reply, reply}
use Rattle.rules.specs.Contract.{Memory, lengths_only, fit, reply_to, SoundTable, Stepped, Performed}
use Rattle.rules.proofs.SoundLaws.{table-made}
use Rattle.rules.proofs.Performing.{refused-number, accepted-number, fit-sound}
use Rattle.rules.proofs.Keeps.{keeps}

-- the number of a reply is the number of the rules
pub reply-number : (c : Call) (e : Entries) → (reply c e).number ≡ number c e
unfolding reply refused_reply accepted_reply
reply-number c e =
    ⊎_elim
    (λ z. rw z)
    (λ z. rw (ne_eqb (number c e) 0 z))
    (same_or_not (number c e) 0)

module _ (view : Memory → Entries) (c : Call) (m : Memory) where
  -- the rules refuse the step
  pub refused-step : (n : ℕ) → n ≡ number c (view m) → (n ≡ 0 → ⊥) → Stepped view c m (refused_reply n c (view m)) m
  unfolding reply
  refused-step n e z =
      record {
        answered = rw (← e, ne_eqb n 0 z);
        kept = λ h. refl;
        became = λ h. absurd (z (sym (refused-number n c (view m)) ∙ h));
      }

  -- they accept it
  pub accepted-step : (m' : Memory) → 0 ≡ number c (view m) → view m' ≡ next c (view m) → Stepped view c m (accepted_reply c (view m)) m'
  unfolding reply
  accepted-step m' e v =
      record {
        answered = rw (← e);
        kept = λ z. absurd (z (accepted-number c (view m)));
        became = λ z. v;
      }

  module _ {r : Reply} {m' : Memory} (t : SoundTable view m) (s : Stepped view c m r m') where
    -- a step leaves a sound table
    pub step-sound : length m'.words ≡ 8192 → length m'.store ≡ 8192 → SoundTable view m'
    step-sound w b =
        ⊎_elim
        (λ z.
        let e : number c (view m) ≡ 0 = sym (ap (λ (x : Reply). x.number) s.answered ∙ reply-number c (view m)) ∙ z in
        record { words = w; store = b; entries = ap sound (s.became z) ∙ keeps c (view m) t.entries e })
        (λ z. subst (λ (x : Memory). SoundTable view x) (sym (s.kept z)) t)
        (same_or_not r.number 0)

    -- a call that goes on with a step
    pub performed-step : lengths_only c ≡ false → length m'.words ≡ 8192 → length m'.store ≡ 8192 → Performed view c m r m'
    unfolding reply_to
    performed-step l w b =
        let f : fit view c m ≡ true = fit-sound view c m l ∙ table-made view m t in
        record {
          answered = s.answered ∙ rw f;
          kept = s.kept;
          sound_after = λ z. table-made view m' (step-sound w b);
          became = s.became;
        }
