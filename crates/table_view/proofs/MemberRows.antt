-- Members as bits of a set's row: each stands at a live object's row where no member is 0, which the live entries say.
use Prim.Native.Nat.{ℕ, ◌<◌}
use mathlib.Core.Path.{◌≡◌, sym, ap, ◌∙◌}
use mathlib.Core.Bool.{Bool, true, not}
use mathlib.Core.List.{List}
use mathlib.Core.Logic.{⊎_elim}
use native.Mathlib.Omega.{arith}
use borrow.Author.Tests.{lt-ltb, eq-eqb, eqb-true}
use lib.Dec.{eqb, ltb}
use lib.ListN.{length, get_or, length-map, get_or-eq_default}
use Rattle.kinds.proofs.Refusing.{true-false}
use Rattle.lists.specs.Lists.{tabulate, every, nonzero, among}
use Rattle.table_columns.specs.Rows.{row_at, rows}
use Rattle.table_columns.specs.Members.{member_rows}
use Rattle.table_columns.specs.declared.members.Members.{Members}
use Rattle.lists.proofs.Tests.{below_or_not, and_left}
use Rattle.lists.proofs.Lists.{every-at, every_map, every-mono, every-tabulate, every-tabulate-at, some-find}
use Rattle.rules.specs.Entries.{Object, PingSet, Entries, oids}
use Rattle.rules.specs.Rules.{no_set}
use Rattle.rules.specs.Sound.{proper, set_members_live}
use Rattle.table_words.specs.Kinds.{set_kind}
use Rattle.table_view.specs.View.{object_count, set_count, objects_of, sets_of, memory, view, oids_of, member_values, members_at, members_below}
use Rattle.table_view.proofs.LiveRows.{objects-length, sets-length, set_at}

-- ---- members below the number of objects

-- every member is below n
abbrev pub Below : ℕ → Members → Bool
Below n m = every (λ j. ltb j n) (member_rows m)

-- as many OIDs as objects
pub oids-length : (ws : List ℕ) → length (oids_of ws) ≡ object_count ws
oids-length ws = length-map (objects_of ws) (λ (o : Object). o.oid) ∙ objects-length ws

module _ (ws : List ℕ) where
  -- at each live set's row
  pub below_at : members_below ws ≡ true → (r : ℕ) → r < set_count ws → Below (object_count ws) (members_at ws r) ≡ true
  unfolding members_below rows row_at tabulate
  below_at e r h =
      every-tabulate-at (λ (q : List ℕ). Below (object_count ws) (record { low = get_or q 3 0; high = get_or q 4 0 })) (set_count ws) (row_at set_kind ws) r h e

  -- and conversely
  pub below-from : ((r : ℕ) → r < set_count ws → Below (object_count ws) (members_at ws r) ≡ true) → members_below ws ≡ true
  unfolding members_below rows row_at tabulate
  below-from f =
      every-tabulate (λ (q : List ℕ). Below (object_count ws) (record { low = get_or q 3 0; high = get_or q 4 0 })) (set_count ws) (row_at set_kind ws) f

-- no member of a set is 0
abbrev pub members_nonzero : Entries → Bool
members_nonzero e = every (λ (p : PingSet). nonzero p.members) e.sets

-- ---- members of rows

module _ (ids : List ℕ) (m : Members) where
  -- rows whose OIDs are not 0 are rows of objects
  nonzero-rows : nonzero (member_values ids m) ≡ true → Below (length ids) m ≡ true
  nonzero-rows h =
      every-mono (λ j. not (eqb (get_or ids j 0) 0)) (λ j. ltb j (length ids))
      (λ j t.
      ⊎_elim
      (λ b. lt-ltb j (length ids) b)
      (λ b. absurd (true-false (sym t ∙ ap not (eq-eqb (get_or ids j 0) 0 (get_or-eq_default ids 0 b)))))
      (below_or_not j (length ids)))
      (member_rows m) (sym (every_map (λ (n : ℕ). not (eqb n 0)) (λ j. get_or ids j 0) (member_rows m)) ∙ h)

-- ---- the array

-- the members of the set at a row, by its words
pub row-members : (ws : List ℕ) (r : ℕ) → r < set_count ws → (get_or (sets_of ws) r no_set).members ≡ member_values (oids_of ws) (members_at ws r)
unfolding row_at tabulate
row-members ws r h = ap (λ (p : PingSet). p.members) (set_at ws r no_set h)

module _ (ws s : List ℕ) where
  -- no member is 0, so every bit stands at an object's row
  pub nonzero-below : members_nonzero (view (memory ws s)) ≡ true → members_below ws ≡ true
  nonzero-below h =
      below-from ws
      (λ r b.
      let l = sets-length ws in
      rw (oids-length ws) at
      (nonzero-rows (oids_of ws) (members_at ws r)
      (ap nonzero (sym (row-members ws r b)) ∙ every-at (λ (p : PingSet). nonzero p.members) (sets_of ws) no_set r (omega arith) h)))

-- members of live objects, whose OIDs are not 0
pub live-nonzero : (e : Entries) → nonzero (oids e) ≡ true → set_members_live e ≡ true → members_nonzero e ≡ true
live-nonzero e d h =
    every-mono (λ (p : PingSet). every (among (oids e)) p.members) (λ (p : PingSet). nonzero p.members)
    (λ p t.
    every-mono (among (oids e)) (λ n. not (eqb n 0))
    (λ n a.
    let r = some-find (eqb n) 0 (oids e) a in
    ap (λ (x : ℕ). not (eqb x 0)) (eqb-true n (get_or (oids e) r.0 0) r.2) ∙ every-at (λ (x : ℕ). not (eqb x 0)) (oids e) 0 r.0 r.1 d)
    p.members t)
    e.sets h

-- members of live objects stand at live objects' rows
pub live_below : (ws s : List ℕ) → proper (oids (view (memory ws s))) ≡ true → set_members_live (view (memory ws s)) ≡ true → members_below ws ≡ true
live_below ws s p h = nonzero-below ws s (live-nonzero (view (memory ws s)) (and_left _ _ p) h)
