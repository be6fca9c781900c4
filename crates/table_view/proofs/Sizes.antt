-- The ones of a live set's member words are as many as its members, of a sound table.
use Prim.Native.Nat.{ℕ, ◌^◌, ◌<◌}
use mathlib.Core.Path.{◌≡◌, refl, sym, ap, ◌∙◌}
use mathlib.Core.Bool.{Bool, true}
use mathlib.Core.List.{List, map}
use native.Mathlib.Omega.{arith}
use borrow.Author.Tests.{ltb-true}
use lib.ListN.{length, get_or, length-map}
use lib.Dec.{eqb, ltb}
use Rattle.lists.specs.Lists.{keep, every, distinct, tabulate}
use Rattle.table_columns.specs.Members.{has_member, member_rows}
use Rattle.lists.proofs.Lists.{every-at, every-at-or, map-tabulate, tabulate-get_or}
use Rattle.lists.proofs.Distinct.{sublist-keep}
use Rattle.table_columns.proofs.members.Bits.{members-below}
use Rattle.table_columns.proofs.members.Ones.{members-ones}
use Rattle.rules.specs.Entries.{PingSet, set_row}
use Rattle.rules.specs.Rules.{no_set, set_of}
use Rattle.rules.specs.Contract.{Memory}
use Rattle.rules.proofs.SoundLaws.{Sound, sound-fields, table-fields}
use Rattle.rules.proofs.ByRow.{set-live, set-row, oids-distinct}
use Rattle.table_view.specs.View.{object_count, set_count, sets_of, view, oids_of, member_values, members_at}
use Rattle.table_view.specs.Sizes.{words_fit, SetsSized}
use Rattle.table_view.proofs.LiveRows.{sets-length}
use Rattle.table_view.proofs.MemberRows.{oids-length, below_at, row-members, live_below}

-- at most 128 objects are live
places : (ws : List ℕ) → object_count ws < 129
places ws = omega arith

-- a word of the array is below 2 ^ 64
pub word_fits : (m : Memory) → words_fit m ≡ true → (x : ℕ) → get_or m.words x 0 < 2 ^ 64
word_fits m h x = ltb-true (get_or m.words x 0) (2 ^ 64) (every-at-or (λ (w : ℕ). ltb w (2 ^ 64)) m.words 0 x refl h)

-- distinct OIDs at distinct rows
rows-differ : (ids : List ℕ) (p : ℕ → Bool) → distinct eqb ids ≡ true → distinct eqb (map (λ j. get_or ids j 0) (keep p (tabulate (length ids) (λ j. j)))) ≡ true
rows-differ ids p h =
    (sublist-keep (λ (j : ℕ). get_or ids j 0) p (tabulate (length ids) (λ j. j))).differs eqb
    (ap (distinct eqb) (map-tabulate (λ (j : ℕ). get_or ids j 0) (length ids) (λ j. j) ∙ tabulate-get_or ids 0) ∙ h)

pub sets-sized : SetsSized
sets-sized m fits t s l =
    record {
      sum = sym (ap length here ∙ length-map (member_rows (members_at ws r)) (λ j. get_or (oids_of ws) j 0) ∙ members-ones (members_at ws r) (word_fits m fits _, word_fits m fits _));
      live = ap (every _) (ap (λ (p : PingSet). p.members) (set-row (view m) s)) ∙ every-at (λ (p : PingSet). every _ p.members) (sets_of ws) no_set r inside f.set_members_live;
      once =
          ap (distinct eqb)
          (here
          ∙ ap (map (λ j. get_or (oids_of ws) j 0))
          (members-below (length (oids_of ws)) (members_at ws r) (rw oids-length (below_at ws (live_below ws m.store f.objects_proper f.set_members_live) r row))
          (let q = oids-length ws in let b = places ws in omega arith)))
          ∙ rows-differ (oids_of ws) (has_member (members_at ws r)) (oids-distinct (view m) (table-fields view m t).entries);
    }
  where
    ws : List ℕ
    ws = m.words

    r : ℕ
    r = set_row (view m) s

    f : Sound (view m)
    f = sound-fields (view m) (table-fields view m t).entries

    inside : r < length (sets_of ws)
    inside = ltb-true r (length (sets_of ws)) (sym (set-live (view m) s) ∙ l)

    row : r < set_count ws
    row = let q = sets-length ws in let h = inside in omega arith

    here : (set_of (view m) s).members ≡ member_values (oids_of ws) (members_at ws r)
    here = ap (λ (p : PingSet). p.members) (set-row (view m) s) ∙ row-members ws r row
