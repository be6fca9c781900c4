-- The loop that takes a bit out of the members of every live set.
use Prim.Native.Nat.{ℕ, ◌+◌, ◌<◌, ◌≤◌}
use mathlib.Core.Path.{◌≡◌, refl, ◌∙◌}
use mathlib.Core.List.{List}
use mathlib.Core.Logic.{◌⊎◌, ⊎_elim}
use native.Mathlib.Omega.{arith}
use lib.ListN.{length, get_or, set, length-set}
use lib.Seq.{get_or-set_same, get_or-set_other}
use Rattle.table_columns.specs.Members.{Cut}
use Rattle.table_columns.specs.declared.members.Members.{Members}
use Rattle.lists.proofs.Tests.{same_or_not}
use Rattle.rules.specs.Entries.{set_places}
use Rattle.table_view.specs.View.{set_count, members_at}
use Rattle.table_edit.specs.Edits.{MembersCut}

-- bit i is taken out of the members at the rows below r, and the other words are as they were
pub record CutTo (i : ℕ) (ws₀ ws : List ℕ) (r : ℕ) : Type 0 where
  pub size : length ws ≡ length ws₀
  pub cut : (q : ℕ) → q < r → Cut i (members_at ws₀ q) (members_at ws q)
  pub left : (q : ℕ) → r ≤ q → q < set_places → members_at ws q ≡ members_at ws₀ q
  pub others : (x : ℕ) → (x < 160) ⊎ (224 ≤ x) → get_or ws x 0 ≡ get_or ws₀ x 0

-- no row
pub cut-none : (i : ℕ) (ws : List ℕ) → CutTo i ws ws 0
cut-none i ws = record { size = refl; cut = λ q h. absurd (omega arith); left = λ q h b. refl; others = λ x h. refl }

-- the members at row r are stored
abbrev pub stored : List ℕ → ℕ → Members → List ℕ
stored ws r m = set (set ws (160 + r) m.low) (192 + r) m.high

module _ (ws : List ℕ) (r : ℕ) (m : Members) (h : r < set_places) (s : length ws ≡ 8192) where
  -- another word
  stored_other : (x : ℕ) → (x ≡ 160 + r → ⊥) → (x ≡ 192 + r → ⊥) → get_or (stored ws r m) x 0 ≡ get_or ws x 0
  stored_other x a b = get_or-set_other (set ws (160 + r) m.low) (192 + r) x m.high 0 b ∙ get_or-set_other ws (160 + r) x m.low 0 a

  -- the members at row r
  stored_here : members_at (stored ws r m) r ≡ m
  stored_here =
      let l = length-set ws (160 + r) m.low in
      let low =
      get_or-set_other (set ws (160 + r) m.low) (192 + r) (160 + r) m.high 0 (omega arith)
      ∙ get_or-set_same ws (160 + r) m.low 0 (omega arith) in
      let high = get_or-set_same (set ws (160 + r) m.low) (192 + r) m.high 0 (omega arith) in
      λ u. record { low = low u; high = high u }

  -- the members at another row
  stored-apart : (q : ℕ) → q < set_places → (q ≡ r → ⊥) → members_at (stored ws r m) q ≡ members_at ws q
  stored-apart q b d =
      let low = stored_other (160 + q) (omega arith) (omega arith) in
      let high = stored_other (192 + q) (omega arith) (omega arith) in
      λ u. record { low = low u; high = high u }

  -- one row more
  pub cut-one : (i : ℕ) (ws₀ : List ℕ) → CutTo i ws₀ ws r → Cut i (members_at ws r) m → CutTo i ws₀ (stored ws r m) (r + 1)
  cut-one i ws₀ p c =
      let here : Cut i (members_at ws₀ r) (members_at (stored ws r m) r) = rw (stored_here, ← p.left r (omega arith) h) c in
      record {
        size = length-set (set ws (160 + r) m.low) (192 + r) m.high ∙ length-set ws (160 + r) m.low ∙ p.size;
        cut = λ q b.
            ⊎_elim
            (λ (e : q ≡ r). rw e here)
            (λ (d : q ≡ r → ⊥). rw (stored-apart q (omega arith) d) (p.cut q (omega arith)))
            (same_or_not q r);
        left = λ q a b. stored-apart q b (omega arith) ∙ p.left q (omega arith) b;
        others = λ x o.
            stored_other x (λ e. ⊎_elim (λ (z : x < 160). omega arith) (λ (z : 224 ≤ x). omega arith) o)
            (λ e. ⊎_elim (λ (z : x < 160). omega arith) (λ (z : 224 ≤ x). omega arith) o)
            ∙ p.others x o;
      }

-- at every live set
pub cut_all : (i : ℕ) (ws₀ ws : List ℕ) (r : ℕ) → set_count ws₀ ≤ r → CutTo i ws₀ ws r → MembersCut i ws₀ ws
cut_all i ws₀ ws r h p = record { size = p.size; cut = λ q b. p.cut q (omega arith); others = p.others }
