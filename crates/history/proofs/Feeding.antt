-- A history that is fed a call: its live entries become what the rules say, and what holds of every history holds of it.
use mathlib.Core.Path.{◌≡◌, refl}
use mathlib.Core.Bool.{Bool, true, false, cond}
use lib.Dec.{eqb}
use borrow.Author.Tests.{eqb-true}
use Rattle.kinds.proofs.Refusing.{by-test}
use Rattle.rules.specs.Calls.{Call, starting, looking, editing, reset, enter_exporter, remove_exporter, enter_object, enter_interface}
use Rattle.rules.specs.Calls.{add, release, drop_client, count_list, simple_ping, complex_ping, clock, load_snapshot}
use Rattle.rules.specs.Items.{items_of}
use Rattle.rules.specs.Snapshot.{entries_of}
use Rattle.rules.specs.Rules.{number, next}
use Rattle.rules.proofs.Keeps.{loaded-sound, loaded-snapshot}
use Rattle.rules.proofs.Swapping.{loads-ordered}
use Rattle.history.specs.History.{History, live, lived, feed}
use Rattle.history.proofs.Lives.{Kept}
use Rattle.history.proofs.Beginning.{live-begin, kept-begin, live-fresh, kept_fresh}
use Rattle.history.proofs.Steps.{Step}
use Rattle.history.proofs.Entering.{exporter-step, object-step, interface-step}
use Rattle.history.proofs.Leaving.{removal-step, clock-step}
use Rattle.history.proofs.Counting.{add_step, release-step, drop-step}
use Rattle.history.proofs.Items.{items-step}
use Rattle.history.proofs.Pinging.{simple-step, complex-step}

-- each accepted call
pub step : (c : Call) (h : History) → Kept h → number c (live h) ≡ 0 → Step c h
unfolding lived next
step (starting (reset t)) h k a = record { entries = live-fresh t; kept = kept_fresh t }
step (editing (enter_exporter x u b)) h k a = exporter-step h k x u b a
step (editing (remove_exporter x)) h k a = removal-step h k x a
step (editing (enter_object o x i iid n np)) h k a = object-step h k o x i iid n np a
step (editing (enter_interface o i iid n)) h k a = interface-step h k o i iid n a
step (editing (add c i p q)) h k a = add_step h k c i p q a
step (editing (release c i p q)) h k a = release-step h k c i p q a
step (editing (drop_client c)) h k a = drop-step h k c a
step (count_list w c s b) h k a = let r = items-step h k w c (items_of s) in record { entries = r.0; kept = r.1 }
step (editing (simple_ping s)) h k a = simple-step h k s a
step (editing (complex_ping s n adds dels)) h k a = complex-step h k s n adds dels a
step (editing (clock t)) h k a = clock-step h k t a
step (looking l) h k a = record { entries = refl; kept = k }
step (starting (load_snapshot s)) h k a =
    let sound = loaded-sound s (live h) a in
    let ordered = loads-ordered s (loaded-snapshot s (live h) a) in
    record { entries = live-begin (entries_of s) sound ordered; kept = kept-begin (entries_of s) sound ordered }

pub record Fed (c : Call) (h : History) : Type 0 where
  pub entries : live (feed h c) ≡ cond (eqb (number c (live h)) 0) (next c (live h)) (live h)
  pub kept : Kept (feed h c)

-- each call, accepted or not
pub fed : (c : Call) (h : History) → Kept h → Fed c h
unfolding feed
fed c h k =
    record {
      entries = chosen (eqb (number c (live h)) 0) refl;
      kept = by-test Kept (eqb (number c (live h)) 0) (lived c h) h (λ t. (step c h k (eqb-true (number c (live h)) 0 t)).kept) (λ t. k);
    }
  where
    chosen : (b : Bool) → eqb (number c (live h)) 0 ≡ b → live (cond b (lived c h) h) ≡ cond b (next c (live h)) (live h)
    chosen true t = (step c h k (eqb-true (number c (live h)) 0 t)).entries
    chosen false t = refl
