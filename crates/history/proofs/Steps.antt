-- What an accepted call does to a history, and the parts of the live entries over the parts of a history that they read.
use Prim.Native.Nat.{ℕ, ◌-◌}
use mathlib.Core.Path.{◌≡◌, refl, sym, ap, ◌∙◌}
use mathlib.Core.Bool.{Bool, true, false, cond, not, ◌&&◌, true≢false}
use mathlib.Core.List.{List, map}
use native.Mathlib.Omega.{arith}
use borrow.Author.Tests.{lt-leb}
use lib.Dec.{eqb, leb}
use Rattle.lists.specs.Lists.{keep, some, first_or, among}
use Rattle.rules.specs.Entries.{Interface, PingSet}
use Rattle.rules.specs.Calls.{Call}
use Rattle.rules.specs.Sound.{sound}
use Rattle.rules.specs.Rules.{number, next}
use Rattle.rules.proofs.Keeps.{keeps}
use Rattle.history.specs.History.{ObjectLife, InterfaceLife, SetLife, History, remaining, at_zero, no_object_life, live, lived}
use Rattle.history.proofs.Lives.{Kept}

-- ---- parts of the live entries

-- the live interfaces, by the live objects and all objects
abbrev pub interfaces_over : List ObjectLife → List ObjectLife → List InterfaceLife → List Interface
interfaces_over lives os is =
    map
    (λ (l : InterfaceLife).
    record {
      ipid = l.ipid;
      iid = l.iid;
      object = (first_or no_object_life (λ (p : ObjectLife). eqb p.serial l.object) os).oid;
      counts = map remaining l.accounts;
    })
    (keep (λ (l : InterfaceLife). not (at_zero l) && some (λ (o : ObjectLife). eqb o.serial l.object) lives) is)

-- the live sets, by the clock and the live objects
abbrev pub sets_over : ℕ → List ObjectLife → List SetLife → List PingSet
sets_over now lives ss =
    map
    (λ (s : SetLife).
    record {
      number = s.number;
      sequence = s.sequence;
      pinged = s.pinged;
      members = map (λ (o : ObjectLife). o.oid) (keep (λ (o : ObjectLife). among s.members o.serial) lives);
    })
    (keep (λ (s : SetLife). not (leb 360 (now - s.pinged))) ss)

-- the clock is the history's
pub clock-live : (h : History) → (live h).clock ≡ h.clock
unfolding live
clock-live h = refl

-- ---- what an accepted call does to a history

-- an accepted call changes the live entries by its rule, and what holds of every history holds after it
pub record Step (c : Call) (h : History) : Type 0 where
  pub entries : live (lived c h) ≡ next c (live h)
  pub kept : Kept (lived c h)

-- the step of a call, by its live entries
pub stepped : (c : Call) (h : History) → Kept h → number c (live h) ≡ 0 → live (lived c h) ≡ next c (live h) → (sound (live (lived c h)) ≡ true → Kept (lived c h)) → Step c h
stepped c h k a e f = record { entries = e; kept = f (ap sound e ∙ keeps c (live h) k.sound a) }

-- what was heard at the clock is heard
pub now-heard : (now : ℕ) → leb 360 (now - now) ≡ false
now-heard now = lt-leb 360 (now - now) (omega arith)

-- what e reads of an element that is changed where two tests pass, of which the second does
pub chosen : {A B : Type 0} (e : A → B) (a b : Bool) (x y : A) (z : B) → b ≡ true → e x ≡ z → e (cond (a && b) x y) ≡ cond a z (e y)
chosen e true true x y z t q = q
chosen e false true x y z t q = refl
chosen e a false x y z t q = absurd (true≢false (sym t))
