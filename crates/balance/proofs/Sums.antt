-- Sums of counts: of a list of which one is changed, of interfaces that are kept, changed and entered.
use Prim.Native.Nat.{ℕ, zero, suc, ◌+◌, ◌*◌, ◌%◌, ◌^◌, ◌<◌, ◌≤◌}
use mathlib.Core.Path.{◌≡◌, refl, ap}
use mathlib.Core.Bool.{Bool, false, not}
use mathlib.Core.List.Memᴰ
use mathlib.Core.List.{List, [], ◌∷◌, ◌++◌}
use mathlib.Core.Logic.{⊎_elim}
use native.Mathlib.Omega.{arith}
use borrow.Author.Tests.{eqb-true, not-false}
use lib.ListN.{length, get_or, set, drop}
use lib.Dec.{eqb}
use Rattle.lists.specs.Lists.{keep, some}
use Rattle.lists.proofs.Tests.{true-or-false, or_left, or_right}
use Rattle.lists.proofs.Elements.{In, map-in}
use Rattle.table_columns.specs.Rows.{rows}
use Rattle.table_words.specs.Kinds.{interface_kind}
use Rattle.rules.specs.Entries.{Interface, count_limit}
use Rattle.rules.specs.Sound.{held}
use Rattle.rules.specs.Swapping.{Each}
use Rattle.table_view.specs.View.{interface_count, as_interface, interfaces_of}
use Rattle.table_view.proofs.LiveRows.{interfaces-length}
use Rattle.table_view.proofs.Counts.{nine-each}
use Rattle.balance.specs.Balance.{total, counts_held}

-- one number changed
pub total-set : (ns : List ℕ) (k v : ℕ) → k < length ns → total (set ns k v) + get_or ns k 0 ≡ total ns + v
unfolding total
total-set [] k v h = absurd (omega arith)
total-set (n ∷ ns) zero v h = omega arith
total-set (n ∷ ns) (suc k) v h = let r = total-set ns k v (omega arith) in omega arith

-- no number but zero
total-none : (ns : List ℕ) → some (λ (n : ℕ). not (eqb n 0)) ns ≡ false → total ns ≡ 0
unfolding total some
total-none [] h = refl
total-none (n ∷ ns) h =
    let z = eqb-true n 0 (not-false (eqb n 0) (or_left (not (eqb n 0)) (some (λ (n : ℕ). not (eqb n 0)) ns) h)) in
    let r = total-none ns (or_right (not (eqb n 0)) (some (λ (n : ℕ). not (eqb n 0)) ns) h) in
    omega arith

-- interfaces in two parts
pub held-append : (xs ys : List Interface) → counts_held (xs ++ ys) ≡ counts_held xs + counts_held ys
unfolding counts_held
held-append [] ys = omega arith
held-append (x ∷ xs) ys = let r = held-append xs ys in omega arith

-- those that pass a test and those that don't
pub held-split : (p : Interface → Bool) (xs : List Interface) → counts_held (keep p xs) + counts_held (keep (λ (i : Interface). not (p i)) xs) ≡ counts_held xs
unfolding counts_held keep
held-split p [] = omega arith
held-split p (x ∷ xs) =
    let r = held-split p xs in
    ⊎_elim
    (λ t. rw t (omega arith))
    (λ f. rw f (omega arith))
    (true-or-false (p x))

-- one interface changed
pub held-set : (is : List Interface) (d x : Interface) (k : ℕ) → k < length is → counts_held (set is k x) + total (get_or is k d).counts ≡ counts_held is + total x.counts
unfolding counts_held
held-set [] d x k h = absurd (omega arith)
held-set (i ∷ is) d x zero h = omega arith
held-set (i ∷ is) d x (suc k) h = let r = held-set is d x k (omega arith) in omega arith

-- an interface without references counts nothing
pub held_kept : (is : List Interface) → counts_held (keep held is) ≡ counts_held is
unfolding counts_held keep
held_kept [] = refl
held_kept (i ∷ is) =
    let r = held_kept is in
    ⊎_elim
    (λ t. rw t (omega arith))
    (λ f. let z = total-none i.counts f in rw f (omega arith))
    (true-or-false (held i))

-- ---- the table's sum, from a place on

total-from : (ns : List ℕ) (k : ℕ) → k < length ns → total (drop k ns) ≡ get_or ns k 0 + total (drop (suc k) ns)
unfolding total
total-from [] k h = absurd (omega arith)
total-from (n ∷ ns) zero h = refl
total-from (n ∷ ns) (suc k) h = total-from ns k (omega arith)

pub total-past : (ns : List ℕ) (k : ℕ) → length ns ≤ k → total (drop k ns) ≡ 0
unfolding total
total-past [] zero h = refl
total-past [] (suc k) h = refl
total-past (n ∷ ns) zero h = absurd (omega arith)
total-past (n ∷ ns) (suc k) h = total-past ns k (omega arith)

-- a sum of those before k goes on
pub total-on : (ns : List ℕ) (k sum n : ℕ) → k < length ns → n ≡ get_or ns k 0 → sum + total (drop k ns) ≡ total ns → sum + n + total (drop (k + 1) ns) ≡ total ns
total-on ns k sum n h e q =
    let r = total-from ns k h in
    let j : suc k ≡ k + 1 = omega arith in
    let t = ap (λ (x : ℕ). total (drop x ns)) j in
    omega arith

held-from : (is : List Interface) (d : Interface) (k : ℕ) → k < length is → counts_held (drop k is) ≡ total (get_or is k d).counts + counts_held (drop (suc k) is)
unfolding counts_held
held-from [] d k h = absurd (omega arith)
held-from (i ∷ is) d zero h = refl
held-from (i ∷ is) d (suc k) h = held-from is d k (omega arith)

pub held-past : (is : List Interface) (k : ℕ) → length is ≤ k → counts_held (drop k is) ≡ 0
unfolding counts_held
held-past [] zero h = refl
held-past [] (suc k) h = refl
held-past (i ∷ is) zero h = absurd (omega arith)
held-past (i ∷ is) (suc k) h = held-past is k (omega arith)

-- the same of interfaces
pub held_on : (is : List Interface) (d : Interface) (k sum n : ℕ) → k < length is → n ≡ total (get_or is k d).counts → sum + counts_held (drop k is) ≡ counts_held is
    → sum + n + counts_held (drop (k + 1) is) ≡ counts_held is
held_on is d k sum n h e q =
    let r = held-from is d k h in
    let j : suc k ≡ k + 1 = omega arith in
    let t = ap (λ (x : ℕ). counts_held (drop x is)) j in
    omega arith

-- ---- sums are small

total-small : (ns : List ℕ) → Each (λ n. n < 2 ^ 32) ns → total ns ≤ length ns * 2 ^ 32
unfolding total
total-small [] h = omega arith
total-small (n ∷ ns) h =
    let a = h n (Memᴰ.head refl) in
    let r = total-small ns (λ k m. h k (Memᴰ.tail m)) in
    omega arith

-- of interfaces with nine counts
pub held_small : (is : List Interface) → Each (λ (i : Interface). (length i.counts ≡ 9) × Each (λ n. n < 2 ^ 32) i.counts) is → counts_held is ≤ length is * 2 ^ 36
unfolding counts_held
held_small [] h = omega arith
held_small (i ∷ is) h =
    let f = h i (Memᴰ.head refl) in
    let a = total-small i.counts f.1 in
    let r = held_small is (λ k m. h k (Memᴰ.tail m)) in
    omega arith

-- the counts of a table's interfaces are read modulo 2^32
counts_each : (ws : List ℕ) (i : Interface) → In i (interfaces_of ws) → Each (λ n. n < 2 ^ 32) i.counts
unfolding interfaces_of
counts_each ws i m n h =
    let r = map-in as_interface (rows interface_kind ws (interface_count ws)) m in
    let a = map-in (λ (w : ℕ). w % count_limit) (drop 5 r.0) (rw r.2 at h) in
    rw a.2 (omega arith)

-- of a table
pub table-small : (ws : List ℕ) → counts_held (interfaces_of ws) ≤ 2 ^ 44
table-small ws =
    let h = held_small (interfaces_of ws) (λ i m. (nine-each ws i m, counts_each ws i m)) in
    let l = interfaces-length ws in
    omega arith
