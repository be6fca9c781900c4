-- What stands in the bytes of a row, by its places; bytes that are not there.
use Prim.Native.Nat.{ℕ, zero, suc, ◌+◌, ◌-◌, ◌*◌, ◌<◌, ◌≤◌, min}
use mathlib.Core.Path.{◌≡◌, sym, ap, ◌∙◌}
use mathlib.Core.List.{List, [], ◌∷◌}
use mathlib.Core.Logic.{⊎_elim}
use native.Mathlib.Omega.{arith}
use lib.ListN.{length, take, drop, length-drop, drop_of_length-le}
use lib.Seq.{drop-drop, take_all}
use Rattle.fields.specs.Fields.{field}
use Rattle.fields.proofs.Fields.{field-drop}
use Rattle.lists.specs.Lists.{tabulate}
use Rattle.lists.proofs.Tests.{below_or_not}
use Rattle.lists.proofs.Lists.{tabulate-ext}
use Rattle.rules.specs.Entries.{PingSet}
use Rattle.rules.specs.Snapshot.{Front, read_row, read_number, read_set}
use Rattle.snapshot_reader.specs.ReadRows.{members_in}

-- ---- bytes that are not there

-- as much is dropped by a place within
pub drop-within : (s : List ℕ) (n : ℕ) → drop (min n (length s)) s ≡ drop n s
drop-within s n =
    ⊎_elim
    (λ (h : n < length s). let e : min n (length s) ≡ n = omega arith in ap (λ (k : ℕ). drop k s) e)
    (λ (h : length s ≤ n). drop_of_length-le s {i = min n (length s)} (omega arith) ∙ sym (drop_of_length-le s {i = n} h))
    (below_or_not n (length s))

-- a part between two such places
pub part-within : (s : List ℕ) (a n : ℕ) → take (min (a + n) (length s) - min a (length s)) (drop (min a (length s)) s) ≡ take n (drop a s)
part-within s a n =
    let l = length-drop a s in
    rw (drop-within s a)
    (⊎_elim
    (λ (h : a + n < length s). let e : min (a + n) (length s) - min a (length s) ≡ n = omega arith in ap (λ (k : ℕ). take k (drop a s)) e)
    (λ (h : length s ≤ a + n). take_all (min (a + n) (length s) - min a (length s)) (drop a s) (omega arith) ∙ sym (take_all n (drop a s) (omega arith)))
    (below_or_not (a + n) (length s)))

-- ---- the members of a set's row

numbers-row : (n : ℕ) (s : List ℕ) → read_row read_number n s ≡ record { value = tabulate n (λ k. field s (8 * k) 8); rest = drop (8 * n) s }
unfolding read_row read_number tabulate
numbers-row zero s = λ u. record { value = []; rest = s }
numbers-row (suc n) s =
    let r = numbers-row n (drop 8 s) in
    let vs : (read_row read_number n (drop 8 s)).value ≡ tabulate n (λ k. field s (8 * suc k) 8) =
    ap (λ (f : Front (List ℕ)). f.value) r
    ∙ tabulate-ext n _ _
    (λ k h.
    let e : 8 * suc k ≡ 8 + 8 * k = omega arith in
    rw e (field-drop s 8 (8 * k) 8 (omega arith))) in
    let e : 8 * suc n ≡ 8 + 8 * n = omega arith in
    let rs : (read_row read_number n (drop 8 s)).rest ≡ drop (8 * suc n) s = ap (λ (f : Front (List ℕ)). f.rest) r ∙ rw e (drop-drop (8 * n) 8 s) in
    λ u. record { value = field s 0 8 ∷ vs u; rest = rs u }

abbrev set_front : List ℕ → Front PingSet
set_front s =
    record {
      value = record { number = field s 0 8; sequence = field s 8 2; pinged = field s 10 8; members = members_in s (field s 18 2) };
      rest = drop (20 + 8 * field s 18 2) s;
    }

pub set-row : (s : List ℕ) → read_set s ≡ set_front s
unfolding read_set
set-row s =
    let n : ℕ = field s 18 2 in
    let c : field (drop 18 s) 0 2 ≡ n = field-drop s 18 0 2 (omega arith) in
    let d : drop 2 (drop 18 s) ≡ drop 20 s = drop-drop 2 18 s in
    let r : read_row read_number (field (drop 18 s) 0 2) (drop 2 (drop 18 s)) ≡ record { value = members_in s n; rest = drop (20 + 8 * n) s } =
    rw (c, d)
    (numbers-row n (drop 20 s)
    ∙ (λ u. record {
      value = tabulate-ext n (λ k. field (drop 20 s) (8 * k) 8) (λ k. field s (20 + 8 * k) 8) (λ k h. field-drop s 20 (8 * k) 8 (omega arith)) u;
      rest = drop-drop (8 * n) 20 s u;
    })) in
    λ u. record { value = record { number = field s 0 8; sequence = field s 8 2; pinged = field s 10 8; members = (r u).value }; rest = (r u).rest }
