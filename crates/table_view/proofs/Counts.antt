-- The counts in an interface's row.
use Prim.Native.Nat.{ℕ, zero, suc, ◌+◌, ◌*◌, ◌%◌, ◌^◌, ◌<◌}
use mathlib.Core.Path.{◌≡◌, refl, sym, ap, ◌∙◌}
use mathlib.Core.Bool.{Bool, not}
use mathlib.Core.List.{List, [], ◌∷◌, map}
use native.Mathlib.Omega.{arith}
use Rattle.std.specs.List.{list_any, range_with_len}
use lib.Dec.{eqb}
use lib.ListN.{length, get_or, drop, length-map, length-drop}
use lib.Seq.{get_or-drop}
use Rattle.lists.specs.Lists.{some, tabulate}
use Rattle.table_columns.specs.Rows.{row_at, rows}
use Rattle.lists.proofs.Lists.{some-map, map-tabulate, tabulate-get_or}
use Rattle.lists.proofs.Elements.{In, map-in, tabulate-in}
use Rattle.table_columns.proofs.rows.Laws.{row_at-get_or, length-row}
use Rattle.rules.specs.Entries.{Interface, count_of}
use Rattle.rules.specs.Sound.{held}
use Rattle.rules.specs.Rules.{no_interface}
use Rattle.table_words.specs.Kinds.{interface_kind}
use Rattle.table_view.specs.View.{interface_count, as_interface, interfaces_of}
use Rattle.table_view.proofs.LiveRows.{interface-at}

-- a word as a count
abbrev pub low32 : ℕ → ℕ
low32 w = w % 2 ^ 32

counts-at : (xs : List ℕ) (k : ℕ) → get_or (map low32 xs) k 0 ≡ low32 (get_or xs k 0)
counts-at [] k = refl
counts-at (x ∷ xs) zero = refl
counts-at (x ∷ xs) (suc k) = counts-at xs k

-- count k is word 5 + k of the row
pub count_word : (ws : List ℕ) (i k : ℕ) → i < interface_count ws → k < 9 → count_of k (get_or (interfaces_of ws) i no_interface) ≡ get_or ws (2048 + 256 * k + i) 0 % 2 ^ 32
count_word ws i k h b =
    let q : 768 + (5 + k) * 256 + i ≡ 2048 + 256 * k + i = omega arith in
    ap (count_of k) (interface-at ws i no_interface h)
    ∙ counts-at (drop 5 (row_at interface_kind ws i)) k
    ∙ ap low32 (get_or-drop 5 (row_at interface_kind ws i) k 0 ∙ row_at-get_or interface_kind ws i (5 + k) (omega arith) ∙ ap (λ (x : ℕ). get_or ws x 0) q)

-- there are nine
nine : (ws : List ℕ) (i : ℕ) → length (map low32 (drop 5 (row_at interface_kind ws i))) ≡ 9
nine ws i = length-map (drop 5 (row_at interface_kind ws i)) low32 ∙ length-drop 5 (row_at interface_kind ws i) ∙ (let q = length-row interface_kind ws i in omega arith)

pub nine-counts : (ws : List ℕ) (i : ℕ) → i < interface_count ws → length (get_or (interfaces_of ws) i no_interface).counts ≡ 9
nine-counts ws i h = ap (λ (r : Interface). length r.counts) (interface-at ws i no_interface h) ∙ nine ws i

-- of each interface
pub nine-each : (ws : List ℕ) (x : Interface) → In x (interfaces_of ws) → length x.counts ≡ 9
unfolding interfaces_of rows
nine-each ws x m =
    let r = map-in as_interface (rows interface_kind ws (interface_count ws)) m in
    let j = tabulate-in (interface_count ws) (row_at interface_kind ws) r.1 in
    ap (λ (i : Interface). length i.counts) (r.2 ∙ ap as_interface j.2) ∙ nine ws j.0

abbrev nonzero : ℕ → Bool
nonzero n = not (eqb n 0)

-- count k is not zero
abbrev pub nonzero_at : Interface → ℕ → Bool
nonzero_at x k = nonzero (count_of k x)

-- an interface is held where one of the nine counts is not zero
pub any-held : (ws : List ℕ) (i : ℕ) → i < interface_count ws → list_any (nonzero_at (get_or (interfaces_of ws) i no_interface)) (range_with_len 0 9) ≡ held (get_or (interfaces_of ws) i no_interface)
unfolding some tabulate
any-held ws i h =
    let x = get_or (interfaces_of ws) i no_interface in
    sym (some-map nonzero (λ k. count_of k x) (tabulate 9 (λ k. k)))
    ∙ ap (some nonzero) (map-tabulate (λ k. count_of k x) 9 (λ k. k) ∙ ap (λ n. tabulate n (λ k. count_of k x)) (sym (nine-counts ws i h)) ∙ tabulate-get_or x.counts 0)
