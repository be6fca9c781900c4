-- What an edit of one kind of rows does to the live rows of that kind, and of every other kind.
use Prim.Native.Nat.{ℕ, suc, ◌+◌, ◌-◌, ◌<◌, ◌≤◌}
use mathlib.Core.Path.{◌≡◌, sym, ap, ◌∙◌}
use mathlib.Core.Bool.{Bool, true, not, ◌&&◌, ◌||◌}
use mathlib.Core.List.{List, [], ◌∷◌, ◌++◌, map}
use mathlib.Core.Logic.{inl, inr, ⊎_elim}
use native.Mathlib.Omega.{arith}
use native.Mathlib.Numerals.{add-one}
use borrow.Author.Tests.{eqb-false, leb-true, ltb-true, not-true}
use lib.Dec.{eqb, ltb, leb}
use lib.ListN.{length, get_or, set, length-set}
use lib.Seq.{get_or-set_same, get_or-set_other, set-set}
use Rattle.lists.specs.Lists.{delete_at}
use Rattle.table_columns.specs.Rows.{cell, row_at, rows, after, RowPut, RowRemoved}
use Rattle.table_columns.specs.declared.rows.Kind.{Kind}
use Rattle.lists.proofs.Tests.{and_left, and_right, or_cases}
use Rattle.lists.proofs.Lists.{map-append, map-set, map-delete}
use Rattle.table_columns.proofs.rows.Laws.{cell_in, rows-within, rows-outside-set, rows-put, rows-removed, rows-set, length-rows, rows-get_or}
use Rattle.table_view.specs.View.{live_rows}
use Rattle.table_edit.specs.Edits.{Only, Pushed, Pulled}
use Rattle.table_view.proofs.LiveRows.{made_at}

-- the live rows of a kind, whose count is the word at
abbrev pub live : Kind → ℕ → List ℕ → List (List ℕ)
live k at ws = rows k ws (live_rows at k ws)

-- a kind of no rows: an edit of the word at alone is an edit of this kind
abbrev pub no_rows : Kind
no_rows = record { base = 16; places = 0; width = 0 }

-- ---- an edit of one kind

module _ (k : Kind) (at : ℕ) where
  -- a store of the word at
  pub only-word : (ws : List ℕ) (v : ℕ) → Only k at ws (set ws at v)
  only-word ws v x d o = get_or-set_other ws at x v 0 d

  -- a store of a word of a row
  pub only-stored : (ws : List ℕ) (i j v : ℕ) → j < k.width → i < k.places → Only k at ws (set ws (cell k j i) v)
  only-stored ws i j v h b x d o =
      let m = cell_in k j i h b in
      get_or-set_other ws (cell k j i) x v 0 (λ e. ⊎_elim (λ (z : x < k.base). omega arith) (λ (z : after k ≤ x). omega arith) o)

  -- a store of two words of a row
  pub only-stored-two : (ws : List ℕ) (i j v j' v' : ℕ) → j < k.width → j' < k.width → i < k.places → Only k at ws (set (set ws (cell k j i) v) (cell k j' i) v')
  only-stored-two ws i j v j' v' h h' b x d o =
      only-stored (set ws (cell k j i) v) i j' v' h' b x d o ∙ only-stored ws i j v h b x d o

  module _ (n : ℕ) (ws ws' : List ℕ) (h : at < k.base) (f : after k ≤ length ws) where
    -- a row is put after the n live ones, and counted
    pub row_pushed : (r : List ℕ) → RowPut k n r ws ws' → n < k.places → Pushed k at n r ws (set ws' at (n + 1))
    row_pushed r p b =
        let s = p.size in
        record {
          size = length-set ws' at (n + 1) ∙ s;
          count = get_or-set_same ws' at (n + 1) 0 (omega arith) ∙ add-one n;
          rows = rows-outside-set k ws' (suc n) at (n + 1) (omega arith) (inl h) ∙ rows-put k ws ws' r n p b;
          only = λ x d o. get_or-set_other ws' at x (n + 1) 0 d ∙ p.outside x o;
        }

    -- row i of the n live ones is removed, and counted no more
    pub row-pulled : (i : ℕ) → RowRemoved k n i ws ws' → i < n → n ≤ k.places → Pulled k at n i ws (set ws' at (n - 1))
    row-pulled i p g b =
        let s = p.size in
        record {
          size = length-set ws' at (n - 1) ∙ s;
          count = get_or-set_same ws' at (n - 1) 0 (omega arith);
          rows = rows-outside-set k ws' (n - 1) at (n - 1) (omega arith) (inl h) ∙ rows-removed k ws ws' i n p g;
          only = λ x d o. get_or-set_other ws' at x (n - 1) 0 d ∙ p.outside x o;
        }

  -- ---- the live rows of the kind

  module _ (n : ℕ) (ws ws' : List ℕ) (e : n ≡ live_rows at k ws) where
    -- a row is entered
    pub live-pushed : (r : List ℕ) → Pushed k at n r ws ws' → n < k.places → live k at ws' ≡ live k at ws ++ (r ∷ [])
    live-pushed r p b =
        let c = p.count in
        let q : live_rows at k ws' ≡ suc n = omega arith in
        ap (rows k ws') q ∙ p.rows ∙ ap (λ (m : ℕ). rows k ws m ++ (r ∷ [])) e

    -- a row is taken out
    pub live-pulled : (i : ℕ) → Pulled k at n i ws ws' → live k at ws' ≡ delete_at i (live k at ws)
    live-pulled i p =
        let c = p.count in
        let q : live_rows at k ws' ≡ n - 1 = omega arith in
        ap (rows k ws') q ∙ p.rows ∙ ap (λ (m : ℕ). delete_at i (rows k ws m)) e

  -- a word of a live row is stored
  pub live-stored : (ws : List ℕ) (i j v : ℕ) → at < k.base → i < live_rows at k ws → j < k.width → after k ≤ length ws
      → live k at (set ws (cell k j i) v) ≡ set (live k at ws) i (set (row_at k ws i) j v)
  live-stored ws i j v a h b f =
      let m = cell_in k j i b (omega arith) in
      let c = get_or-set_other ws (cell k j i) at v 0 (omega arith) in
      let q : live_rows at k (set ws (cell k j i) v) ≡ live_rows at k ws = omega arith in
      ap (rows k (set ws (cell k j i) v)) q ∙ rows-set k ws (live_rows at k ws) i j v h (omega arith) b (omega arith)

  -- two words of a live row are stored
  pub live-stored-two : (ws : List ℕ) (i j v j' v' : ℕ) → at < k.base → i < live_rows at k ws → j < k.width → j' < k.width → after k ≤ length ws
      → live k at (set (set ws (cell k j i) v) (cell k j' i) v') ≡ set (live k at ws) i (set (set (row_at k ws i) j v) j' v')
  live-stored-two ws i j v j' v' a h b b' f =
      let m = cell_in k j i b (omega arith) in
      let ws' = set ws (cell k j i) v in
      let r = set (row_at k ws i) j v in
      let c = get_or-set_other ws (cell k j i) at v 0 (omega arith) in
      let s = length-set ws (cell k j i) v in
      let e = live-stored ws i j v a h b f in
      let z : row_at k ws' i ≡ r =
      sym (rows-get_or k ws' (live_rows at k ws') i (omega arith))
      ∙ ap (λ (rs : List (List ℕ)). get_or rs i []) e
      ∙ get_or-set_same (live k at ws) i r [] (rw (length-rows k ws (live_rows at k ws)) h) in
      live-stored ws' i j' v' a (omega arith) b' (omega arith)
      ∙ (λ u. set (e u) i (set (z u) j' v'))
      ∙ set-set (live k at ws) i r (set r j' v')

  -- ---- the entries that are made of them

  module _ {A : Type 0} (entry : List ℕ → A) (ws ws' : List ℕ) where
    -- a row is entered
    pub made-pushed : (n : ℕ) → n ≡ live_rows at k ws → (r : List ℕ) → Pushed k at n r ws ws' → n < k.places
        → map entry (live k at ws') ≡ map entry (live k at ws) ++ (entry r ∷ [])
    made-pushed n e r p b = ap (map entry) (live-pushed n ws ws' e r p b) ∙ map-append entry (live k at ws) (r ∷ [])

    -- a row is taken out
    pub made-pulled : (n : ℕ) → n ≡ live_rows at k ws → (i : ℕ) → Pulled k at n i ws ws'
        → map entry (live k at ws') ≡ delete_at i (map entry (live k at ws))
    made-pulled n e i p = ap (map entry) (live-pulled n ws ws' e i p) ∙ map-delete entry i (live k at ws)

    -- row i became r, and its entry f of it
    pub made-changed : (d : A) (f : A → A) (i : ℕ) (r : List ℕ) → i < live_rows at k ws → live k at ws' ≡ set (live k at ws) i r
        → entry r ≡ f (entry (row_at k ws i)) → map entry (live k at ws') ≡ set (map entry (live k at ws)) i (f (get_or (map entry (live k at ws)) i d))
    made-changed d f i r h e g =
        ap (map entry) e
        ∙ map-set entry (live k at ws) i r
        ∙ ap (set (map entry (live k at ws)) i) (g ∙ ap f (sym (made_at entry k ws (live_rows at k ws) i d h)))

-- ---- the live rows of another kind

-- word x is neither the count of a kind nor at its rows or after them
abbrev pub word_apart : Kind → ℕ → ℕ → Bool
word_apart k at x = not (eqb x at) && ltb x k.base

-- a kind with its count, and another with its own, have no word in common
abbrev pub apart_kinds : Kind → ℕ → Kind → ℕ → Bool
apart_kinds k at k' at' = word_apart k at at' && (ltb at k'.base && (leb (after k) k'.base || leb (after k') k.base))

module _ (k : Kind) (at : ℕ) (ws ws' : List ℕ) (o : Only k at ws ws') where
  -- such a word is the same
  pub word_kept : (x : ℕ) → word_apart k at x ≡ true → get_or ws' x 0 ≡ get_or ws x 0
  word_kept x t =
      o x (eqb-false x at (not-true (eqb x at) (and_left (not (eqb x at)) (ltb x k.base) t)))
      (inl (ltb-true x k.base (and_right (not (eqb x at)) (ltb x k.base) t)))

  -- the live rows of such a kind are the same
  pub live-kept : (k' : Kind) (at' : ℕ) → apart_kinds k at k' at' ≡ true → live k' at' ws' ≡ live k' at' ws
  live-kept k' at' t =
      let r = and_right (word_apart k at at') _ t in
      let a = ltb-true at k'.base (and_left (ltb at k'.base) _ r) in
      let c = word_kept at' (and_left (word_apart k at at') _ t) in
      let q : live_rows at' k' ws' ≡ live_rows at' k' ws = omega arith in
      ap (rows k' ws') q
      ∙ rows-within k' ws ws' (live_rows at' k' ws) (omega arith)
      (λ x l u.
      o x (omega arith)
      (⊎_elim
      (λ g. let z = leb-true (after k) k'.base g in inr (omega arith))
      (λ g. let z = leb-true (after k') k.base g in inl (omega arith))
      (or_cases (leb (after k) k'.base) (leb (after k') k.base) (and_right (ltb at k'.base) _ r))))
