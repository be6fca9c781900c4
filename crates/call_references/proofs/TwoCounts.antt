-- Two counts of one interface: the public one, and the private one of a client.
use Prim.Native.Nat.{ℕ, suc, ◌+◌, ◌<◌}
use mathlib.Core.Path.{◌≡◌, refl, sym, ap, ◌∙◌}
use mathlib.Core.List.{List, [], ◌∷◌}
use native.Mathlib.Omega.{arith}
use native.Mathlib.Numerals.{add-one}
use lib.ListN.{length, get_or, set}
use lib.Seq.{set-set, get_or-set_same}
use Rattle.rules.specs.Entries.{Interface, Entries, public_of, private_of, with_interfaces, with_count, at_counts}
use Rattle.rules.specs.Rules.{no_interface}
use Rattle.table_view.specs.View.{interface_count, interfaces_of, memory, view}
use Rattle.table_edit.specs.Edits.{Became, change_interface}
use Rattle.table_view.proofs.LiveRows.{interfaces-length}

-- the private counts stay where the public one changes
apart : (c n : ℕ) (x : Interface) → private_of c (with_count 0 n x) ≡ private_of c x
apart c n x = past x.counts
  where
    past : (ns : List ℕ) → get_or (set ns 0 n) (suc c) 0 ≡ get_or ns (suc c) 0
    past [] = refl
    past (m ∷ ns) = refl

-- both counts, by what they were
pub counts-as : (c p q : ℕ) (x : Interface) (f g : ℕ → ℕ) → p ≡ f (public_of x) → q ≡ g (private_of c x)
    → at_counts c (λ (n : ℕ). p) (λ (n : ℕ). q) x ≡ at_counts c f g x
counts-as c p q x f g a b u = with_count (suc c) ((b ∙ ap g (sym (apart c (f (public_of x)) x))) u) (with_count 0 (a u) x)

-- one after the other
pub both-counts : (ws : List ℕ) (i : ℕ) → i < interface_count ws → (c p q : ℕ) (ws₁ ws₂ : List ℕ) → Became (change_interface i (with_count 0 p)) ws ws₁
    → Became (change_interface i (with_count (c + 1) q)) ws₁ ws₂ → Became (change_interface i (at_counts c (λ (n : ℕ). p) (λ (n : ℕ). q))) ws ws₂
both-counts ws i inside c p q ws₁ ws₂ first second s =
    let e : Entries = view (memory ws s) in
    let x : Interface = with_count 0 p (get_or (interfaces_of ws) i no_interface) in
    let l = interfaces-length ws in
    let h : i < length (interfaces_of ws) = omega arith in
    rw add-one at (second s)
    ∙ ap (change_interface i (with_count (suc c) q)) (first s)
    ∙ ap (λ (l : List Interface). with_interfaces l e)
    (ap (λ (y : Interface). set (set (interfaces_of ws) i x) i (with_count (suc c) q y)) (get_or-set_same (interfaces_of ws) i x no_interface h) ∙ set-set (interfaces_of ws) i x (with_count (suc c) q x))

-- an edit that leaves as many interfaces leaves a row
pub row_kept : (g : Entries → Entries) (i : ℕ) (ws ws' : List ℕ) → Became g ws ws' → ((e : Entries) → length (g e).interfaces ≡ length e.interfaces)
    → i < interface_count ws → i < interface_count ws'
row_kept g i ws ws' b same h =
    let n = sym (interfaces-length ws') ∙ ap (λ (e : Entries). length e.interfaces) (b ws) ∙ same (view (memory ws ws)) ∙ interfaces-length ws in
    omega arith
