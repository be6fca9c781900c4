-- Each call moves one number of a tally alone, by the difference of the table's sums.
use Prim.Native.Nat.{ℕ, ◌+◌, ◌-◌}
use mathlib.Core.Path.{◌≡◌, refl, sym, ap, ◌∙◌}
use mathlib.Core.Bool.{Bool, true, false, cond, true≢false}
use mathlib.Core.List.{List, [], ◌∷◌}
use native.Mathlib.Omega.{arith}
use lib.Dec.{eqb}
use Rattle.rules.specs.Entries.{Entries}
use Rattle.rules.specs.Calls.{Call, starting, looking, editing, Counting, adding, releasing, reset, enter_exporter, remove_exporter, enter_object, enter_interface, add}
use Rattle.rules.specs.Calls.{release, drop_client, count_list, simple_ping, complex_ping, clock, resolve, resolve_filtered, census, members, next_stop, write_snapshot, load_snapshot}
use Rattle.rules.specs.Items.{Item, items_of, item_call}
use Rattle.rules.specs.Sound.{sound}
use Rattle.rules.specs.Rules.{number, next, item_done}
use Rattle.tally.specs.declared.Tally.{Tally}
use Rattle.tally.specs.Tallies.{raised}
use Rattle.balance.specs.Balance.{counts_held, held_in, taken_by, item_tallied, items_tallied, counting, tallied, after, Balanced, Nine}
use Rattle.balance.specs.Sides.{Side, granting, taking, running, beginning, side_of, moved, BySums}
use Rattle.balance.proofs.Balanced.{each-balanced}

-- one number is raised
abbrev Raised : Side → Tally → Tally → Type 0
Raised granting y z = (n : ℕ) × (z ≡ raised y n 0 0)
Raised taking y z = (n : ℕ) × (z ≡ raised y 0 n 0)
Raised running y z = (n : ℕ) × (z ≡ raised y 0 0 n)
Raised beginning y z = Unit {0}

-- by nothing
unmoved : (y : Tally) → y ≡ raised y 0 0 0
unmoved y =
    let a : y.granted ≡ y.granted + 0 = omega arith in
    let b : y.taken ≡ y.taken + 0 = omega arith in
    let c : y.rundown ≡ y.rundown + 0 = omega arith in
    λ u. record { granted = a u; taken = b u; rundown = c u }

abbrev way_of : Counting → Side
way_of adding = granting
way_of releasing = taking

-- twice
raised-on : (w : Counting) (x y z : Tally) → Raised (way_of w) x y → Raised (way_of w) y z → Raised (way_of w) x z
raised-on adding x y z p q = (
  p.0 + q.0,
  q.1 ∙ ap (λ (v : Tally). raised v q.0 0 0) p.1
      ∙ (let a : x.granted + p.0 + q.0 ≡ x.granted + (p.0 + q.0) = omega arith in
      let b : x.taken + 0 + 0 ≡ x.taken + 0 = omega arith in
      let c : x.rundown + 0 + 0 ≡ x.rundown + 0 = omega arith in
      λ u. record { granted = a u; taken = b u; rundown = c u }),
)
raised-on releasing x y z p q = (
  p.0 + q.0,
  q.1 ∙ ap (λ (v : Tally). raised v 0 q.0 0) p.1
      ∙ (let a : x.taken + p.0 + q.0 ≡ x.taken + (p.0 + q.0) = omega arith in
      let b : x.granted + 0 + 0 ≡ x.granted + 0 = omega arith in
      let c : x.rundown + 0 + 0 ≡ x.rundown + 0 = omega arith in
      λ u. record { granted = b u; taken = a u; rundown = c u }),
)

-- an item, and items
item-raised : (w : Counting) (c : ℕ) (t : Item) (e : Entries) (y : Tally) → Raised (way_of w) y (item_tallied w c t e y)
item-raised adding c t e y = go (eqb (number (item_call adding c t) e) 0)
  where
    go : (b : Bool) → Raised granting y (cond b (raised y (t.public + t.private) 0 0) y)
    go true = (t.public + t.private, refl)
    go false = (0, unmoved y)
item-raised releasing c t e y = go (eqb (number (item_call releasing c t) e) 0)
  where
    go : (b : Bool) → Raised taking y (cond b (raised y 0 (taken_by c t.ipid t.public t.private e) 0) y)
    go true = (taken_by c t.ipid t.public t.private e, refl)
    go false = (0, unmoved y)

items-raised : (w : Counting) (c : ℕ) (ts : List Item) (e : Entries) (y : Tally) → Raised (way_of w) y (items_tallied w c ts e y)
unfolding items_tallied
items-raised adding c [] e y = (0, unmoved y)
items-raised releasing c [] e y = (0, unmoved y)
items-raised w c (t ∷ ts) e y =
    raised-on w y (item_tallied w c t e y) (items_tallied w c ts (item_done w c t e) (item_tallied w c t e y)) (item-raised w c t e y)
    (items-raised w c ts (item_done w c t e) (item_tallied w c t e y))

-- every call
counted-raised : (c : Call) (e : Entries) (y : Tally) → Raised (side_of c) y (counting c e y)
unfolding counting
counted-raised (starting (reset t)) e y = tt
counted-raised (editing (enter_exporter x u b)) e y = (0, unmoved y)
counted-raised (editing (remove_exporter x)) e y = (_, refl)
counted-raised (editing (enter_object o x i iid n np)) e y = (n, refl)
counted-raised (editing (enter_interface o i iid n)) e y = (n, refl)
counted-raised (editing (add c i p q)) e y = (_, refl)
counted-raised (editing (release c i p q)) e y = (_, refl)
counted-raised (editing (drop_client c)) e y = (_, refl)
counted-raised (count_list adding c s b) e y = items-raised adding c (items_of s) e y
counted-raised (count_list releasing c s b) e y = items-raised releasing c (items_of s) e y
counted-raised (editing (simple_ping s)) e y = (0, unmoved y)
counted-raised (editing (complex_ping s n adds dels)) e y = (0, unmoved y)
counted-raised (editing (clock t)) e y = (_, refl)
counted-raised (looking (resolve x b)) e y = (0, unmoved y)
counted-raised (looking (resolve_filtered x ps b)) e y = (0, unmoved y)
counted-raised (looking census) e y = (0, unmoved y)
counted-raised (looking (members s)) e y = (0, unmoved y)
counted-raised (looking (next_stop r)) e y = (0, unmoved y)
counted-raised (looking (write_snapshot b)) e y = (0, unmoved y)
counted-raised (starting (load_snapshot s)) e y = tt

-- ---- by the sums

-- a tally that balances before and after, with one number raised
by-sums-of : (d : Side) (ok : Bool) (y z : Tally) (e f : Entries) → (d ≡ beginning → z ≡ moved beginning ok (held_in e) (held_in f) y) → Raised d y z → Balanced y e → Balanced z f
    → z ≡ moved d ok (held_in e) (held_in f) y
by-sums-of granting ok y z e f s r b c =
    let n : ℕ = r.0 in
    let g = ap (λ (v : Tally). v.granted) r.1 in
    let t = ap (λ (v : Tally). v.taken) r.1 in
    let d = ap (λ (v : Tally). v.rundown) r.1 in
    let q : n ≡ held_in f - held_in e = omega arith in
    r.1 ∙ ap (λ (k : ℕ). raised y k 0 0) q
by-sums-of taking ok y z e f s r b c =
    let n : ℕ = r.0 in
    let g = ap (λ (v : Tally). v.granted) r.1 in
    let t = ap (λ (v : Tally). v.taken) r.1 in
    let d = ap (λ (v : Tally). v.rundown) r.1 in
    let q : n ≡ held_in e - held_in f = omega arith in
    r.1 ∙ ap (λ (k : ℕ). raised y 0 k 0) q
by-sums-of running ok y z e f s r b c =
    let n : ℕ = r.0 in
    let g = ap (λ (v : Tally). v.granted) r.1 in
    let t = ap (λ (v : Tally). v.taken) r.1 in
    let d = ap (λ (v : Tally). v.rundown) r.1 in
    let q : n ≡ held_in e - held_in f = omega arith in
    r.1 ∙ ap (λ (k : ℕ). raised y 0 0 k) q
by-sums-of beginning ok y z e f s r b c = s refl

-- a refused call moves nothing
tallied-raised : (c : Call) (e : Entries) (y : Tally) → Raised (side_of c) y (tallied c e y)
tallied-raised c e y = go (eqb (number c e) 0) (side_of c) (counted-raised c e y)
  where
    go : (b : Bool) (d : Side) → Raised d y (counting c e y) → Raised d y (cond b (counting c e y) y)
    go true d r = r
    go false granting r = (0, unmoved y)
    go false taking r = (0, unmoved y)
    go false running r = (0, unmoved y)
    go false beginning r = tt

-- beginning is no other side
is_starting : Side → Bool
is_starting granting = false
is_starting taking = false
is_starting running = false
is_starting beginning = true

-- a reset and a load
started : (c : Call) (e : Entries) (y : Tally) → side_of c ≡ beginning → tallied c e y ≡ moved beginning (eqb (number c e) 0) (held_in e) (held_in (after c e)) y
unfolding counting next counts_held is_starting
started c e y d = go (eqb (number c e) 0)
  where
    fresh_start : (c : Call) → side_of c ≡ beginning → counting c e y ≡ record { granted = held_in (next c e); taken = 0; rundown = 0 }
    fresh_start (starting (reset t)) d = refl
    fresh_start (editing (enter_exporter x u b)) d = absurd (true≢false (ap is_starting (sym d)))
    fresh_start (editing (remove_exporter x)) d = absurd (true≢false (ap is_starting (sym d)))
    fresh_start (editing (enter_object o x i iid n np)) d = absurd (true≢false (ap is_starting (sym d)))
    fresh_start (editing (enter_interface o i iid n)) d = absurd (true≢false (ap is_starting (sym d)))
    fresh_start (editing (add c i p q)) d = absurd (true≢false (ap is_starting (sym d)))
    fresh_start (editing (release c i p q)) d = absurd (true≢false (ap is_starting (sym d)))
    fresh_start (editing (drop_client c)) d = absurd (true≢false (ap is_starting (sym d)))
    fresh_start (count_list adding c s b) d = absurd (true≢false (ap is_starting (sym d)))
    fresh_start (count_list releasing c s b) d = absurd (true≢false (ap is_starting (sym d)))
    fresh_start (editing (simple_ping s)) d = absurd (true≢false (ap is_starting (sym d)))
    fresh_start (editing (complex_ping s n adds dels)) d = absurd (true≢false (ap is_starting (sym d)))
    fresh_start (editing (clock t)) d = absurd (true≢false (ap is_starting (sym d)))
    fresh_start (looking (resolve x b)) d = absurd (true≢false (ap is_starting (sym d)))
    fresh_start (looking (resolve_filtered x ps b)) d = absurd (true≢false (ap is_starting (sym d)))
    fresh_start (looking census) d = absurd (true≢false (ap is_starting (sym d)))
    fresh_start (looking (members s)) d = absurd (true≢false (ap is_starting (sym d)))
    fresh_start (looking (next_stop r)) d = absurd (true≢false (ap is_starting (sym d)))
    fresh_start (looking (write_snapshot b)) d = absurd (true≢false (ap is_starting (sym d)))
    fresh_start (starting (load_snapshot s)) d = refl

    go : (b : Bool) → cond b (counting c e y) y ≡ cond b (record { granted = held_in (cond b (next c e) e); taken = 0; rundown = 0 }) y
    go true = fresh_start c d
    go false = refl

pub by-sums : BySums
by-sums c e y s n b =
    by-sums-of (side_of c) (eqb (number c e) 0) y (tallied c e y) e (after c e) (started c e y) (tallied-raised c e y) b (each-balanced c e y s n b)

-- ---- the sum after a call

-- of one that grants alone: all that is held then was held before, or is granted
pub granted-sum : (c : Call) (e : Entries) → sound e ≡ true → Nine e → side_of c ≡ granting
    → held_in (after c e) ≡ (tallied c e (record { granted = held_in e; taken = 0; rundown = 0 })).granted
granted-sum c e s n d =
    let y : Tally = record { granted = held_in e; taken = 0; rundown = 0 } in
    let b = each-balanced c e y s n (omega arith) in
    let r : Raised granting y (tallied c e y) = rw d at (tallied-raised c e y) in
    let t = ap (λ (v : Tally). v.taken) r.1 in
    let q = ap (λ (v : Tally). v.rundown) r.1 in
    omega arith
