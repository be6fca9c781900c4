-- A section is its count and its rows; rows in rising order are the section's entries.
use Prim.Native.Nat.{ℕ, ◌+◌, ◌<◌, ◌≤◌}
use mathlib.Core.Path.{◌≡◌, refl, sym, ap, ◌∙◌}
use mathlib.Core.Bool.{Bool, true}
use mathlib.Core.List.{List, [], ◌∷◌, ◌++◌, map}
use native.Mathlib.Omega.{arith}
use lib.Dec.{ltb}
use lib.ListN.{length, drop, get_or, length-map}
use Rattle.fields.specs.Fields.{encode, written}
use Rattle.bindings.specs.Bindings.{joined}
use Rattle.lists.specs.Lists.{every}
use Rattle.lists.specs.Order.{rising}
use Rattle.lists.proofs.Order.{length-rising, rising-map}
use Rattle.rules.specs.Entries.{Entries}
use Rattle.rules.specs.Snapshot.{set_before, members_in_order, sorted, in_row, section, exporter_bytes, object_bytes, interface_bytes, set_bytes, sections, snapshot_bytes}
use Rattle.table_view.specs.View.{clock_of, next_of, sets_of, memory, view}
use Rattle.table_view.proofs.LiveRows.{exporters-length, objects-length, interfaces-length, sets-length}
use Rattle.snapshot_rows.specs.declared.Section.{Section}
use Rattle.snapshot_rows.specs.declared.Section.TheVariants.{Exporters, Objects, Interfaces, Sets}
use Rattle.snapshot_rows.specs.Writing.{Room, Wrote}
use Rattle.snapshot_rows.specs.Keys.{InOrder, RowsInOrder}
use Rattle.snapshot_rows.specs.Rows.{rising_oids, row_count, row_bytes}
use Rattle.snapshot_rows.proofs.Writing.{Left, left-all, left-same, left-fits, left-then, left_step, left-none, left-room, row-map, row-end, next-live, next-room, next-put}
use Rattle.snapshot_rows.proofs.rows.FieldByField.{wrote-number}
use Rattle.call_save.specs.Sections.{section_of}

-- ---- rows in rising order

-- the section of images
section-map : {A B : Type 0} (bytes : B → List ℕ) (f : A → B) (xs : List A) → section bytes (map f xs) ≡ section (λ x. bytes (f x)) xs
section-map bytes f xs = λ u. encode 2 (length-map xs f u) ++ row-map bytes f xs u

module _ {A : Type 0} {before : A → A → Bool} {d : A} {xs : List A} {rows : List ℕ} (o : InOrder before d xs rows) where
  -- as many as the entries
  ordered-count : length rows ≡ length xs
  ordered-count = sym (length-map rows (λ i. get_or xs i d)) ∙ ap length o.rises ∙ length-rising before xs

  -- their section is that of the entries
  ordered-section : (bytes : A → List ℕ) → section bytes (rising before xs) ≡ section (λ i. bytes (get_or xs i d)) rows
  ordered-section bytes = ap (section bytes) (sym o.rises) ∙ section-map bytes (λ i. get_or xs i d) rows

-- ---- by section

module _ (ws store rows : List ℕ) where
  -- each is the row of an entry
  rows-live : (k : Section) → RowsInOrder k ws store rows → every (λ i. ltb i (row_count k ws)) rows ≡ true
  rows-live Exporters o = rw (exporters-length ws store) at o.live
  rows-live Objects o = rw (objects-length ws) at o.live
  rows-live Interfaces o = rw (interfaces-length ws) at o.live
  rows-live Sets o = rw (sets-length ws) at o.live

  -- two bytes hold their number
  pub rows_few : (k : Section) → RowsInOrder k ws store rows → length rows < 65536
  rows_few Exporters o = let n = ordered-count o in let m = exporters-length ws store in omega arith
  rows_few Objects o = let n = ordered-count o in let m = objects-length ws in omega arith
  rows_few Interfaces o = let n = ordered-count o in let m = interfaces-length ws in omega arith
  rows_few Sets o = let n = ordered-count o in let m = sets-length ws in omega arith

  -- their section is that of the table
  section-rows : (k : Section) → RowsInOrder k ws store rows → section_of k (sorted (view (memory ws store))) ≡ section (row_bytes k ws store) rows
  unfolding sorted
  section-rows Exporters o = ordered-section o exporter_bytes
  section-rows Objects o = ordered-section o object_bytes
  section-rows Interfaces o = ordered-section o interface_bytes
  section-rows Sets o =
      let ordered = members_in_order (rising_oids ws) in
      ap (section set_bytes) (rising-map ordered set_before (sets_of ws))
      ∙ section-map set_bytes ordered (rising set_before (sets_of ws))
      ∙ ordered-section o (λ s. set_bytes (ordered s))

-- once the count is written, the rows are left
pub record Counted (k : Section) (ws store rows b : List ℕ) (at : ℕ) (b₁ : List ℕ) : Type 0 where
  pub live : every (λ i. ltb i (row_count k ws)) rows ≡ true
  pub left : Left b at (section_of k (sorted (view (memory ws store)))) b₁ (at + 2) (in_row (row_bytes k ws store) rows)
  pub room : Room b₁ (at + 2) (in_row (row_bytes k ws store) rows)

pub count-put : (ws store rows : List ℕ) (k : Section) (b b₁ : List ℕ) (at : ℕ) → RowsInOrder k ws store rows → Room b at (section_of k (sorted (view (memory ws store))))
    → b₁ ≡ written b at (encode 2 (length rows)) → Counted k ws store rows b at b₁
count-put ws store rows k b b₁ at o room e =
    let l =
    left_step (encode 2 (length rows)) (in_row (row_bytes k ws store) rows) room (left-same (section-rows ws store rows k o) (left-all _ _ _)) (wrote-number 2 refl e refl) in
    record { live = rows-live ws store rows k o; left = l; room = left-fits room l }

module _ {k : Section} {ws store rows b : List ℕ} {at : ℕ} {b₁ : List ℕ} (c : Counted k ws store rows b at b₁) where
  pub count-inside : at + 2 ≤ length b
  count-inside =
      let r = c.room in
      let s = c.left.size in
      omega arith

  -- row by row
  module _ (i : ℕ) {b' : List ℕ} {at' : ℕ} (l : Left b₁ (at + 2) (in_row (row_bytes k ws store) rows) b' at' (in_row (row_bytes k ws store) (drop i rows))) where
    pub row_room : i < length rows → (get_or rows i 0 < row_count k ws) × Room b' at' (row_bytes k ws store (get_or rows i 0))
    row_room h = (next-live (row_bytes k ws store) rows (row_count k ws) c.live i h, next-room (row_bytes k ws store) rows (row_count k ws) c.live i h c.room l)

    pub row_put : i < length rows → {b'' : List ℕ} {at'' : ℕ} → Wrote b' at' (row_bytes k ws store (get_or rows i 0)) b'' at''
        → Left b₁ (at + 2) (in_row (row_bytes k ws store) rows) b'' at'' (in_row (row_bytes k ws store) (drop (i + 1) rows))
    row_put h w = next-put (row_bytes k ws store) rows (row_count k ws) c.live i h c.room l w

    pub rows-put : length rows ≤ i → Wrote b at (section_of k (sorted (view (memory ws store)))) b' at'
    rows-put h = left-none (row-end (row_bytes k ws store) rows i h) (left-then c.left l)

-- ---- the two numbers

pub numbers-put : (ws b b₁ b₂ b₃ : List ℕ) (at t n : ℕ) → Room b at (section (encode 8) (clock_of ws ∷ next_of ws ∷ []))
    → b₁ ≡ written b at (encode 2 2) → t ≡ clock_of ws → b₂ ≡ written b₁ (at + 2) (encode 8 t) → n ≡ next_of ws → b₃ ≡ written b₂ (at + 10) (encode 8 n)
    → Wrote b at (section (encode 8) (clock_of ws ∷ next_of ws ∷ [])) b₃ (at + 18)
unfolding in_row
numbers-put ws b b₁ b₂ b₃ at t n room e₁ clock e₂ next e₃ =
    let a₂ : at + 10 ≡ at + 2 + 8 = omega arith in
    let a₃ : at + 18 ≡ at + 10 + 8 = omega arith in
    let l₁ = left_step (encode 2 2) _ room (left-all b at (section (encode 8) (clock_of ws ∷ next_of ws ∷ []))) (wrote-number 2 refl e₁ refl) in
    let l₂ = left_step (encode 8 (clock_of ws)) _ room l₁ (wrote-number 8 refl (rw clock at e₂) a₂) in
    left-none refl (left_step (encode 8 (next_of ws)) _ room l₂ (wrote-number 8 refl (rw next at e₃) a₃))

-- ---- all sections

-- the numbers, and the sections of sorted entries
abbrev pub parts : Entries → List (List ℕ)
parts e =
    section (encode 8) (e.clock ∷ e.next ∷ [])
    ∷ section_of Exporters (sorted e)
    ∷ section_of Objects (sorted e)
    ∷ section_of Interfaces (sorted e)
    ∷ section_of Sets (sorted e)
    ∷ []

-- the next of them
module _ {b₀ : List ℕ} {at₀ : ℕ} {x₀ b : List ℕ} {at : ℕ} (x : List ℕ) (xs : List (List ℕ)) (room : Room b₀ at₀ x₀) (l : Left b₀ at₀ x₀ b at (joined (x ∷ xs))) where
  part_room : Room b at x
  unfolding joined
  part_room = left-room x (joined xs) room l

  part-put : {b' : List ℕ} {at' : ℕ} → Wrote b at x b' at' → Left b₀ at₀ x₀ b' at' (joined xs)
  unfolding joined
  part-put w = left_step x (joined xs) room l w

-- none is left
parts-end : {b₀ : List ℕ} {at₀ : ℕ} {x₀ b : List ℕ} {at : ℕ} → Left b₀ at₀ x₀ b at (joined []) → Wrote b₀ at₀ x₀ b at
unfolding joined
parts-end l = left-none refl l

-- in a buffer with room for all of them, those from the k-th on are left
pub record PartsLeft (k : ℕ) (ws s b₀ b : List ℕ) (at : ℕ) : Type 0 where
  pub room : Room b₀ 0 (snapshot_bytes (view (memory ws s)))
  pub left : Left b₀ 0 (snapshot_bytes (view (memory ws s))) b at (joined (drop k (parts (view (memory ws s)))))

module _ (ws s b₀ : List ℕ) where
  abbrev e : Entries
  e = view (memory ws s)

  module _ (room : Room b₀ 0 (snapshot_bytes e)) where
    left-0 : PartsLeft 0 ws s b₀ b₀ 0
    unfolding sections sorted
    left-0 = record { room = room; left = left-all b₀ 0 (snapshot_bytes e) }

    pub room-numbers : Room b₀ 0 (section (encode 8) (clock_of ws ∷ next_of ws ∷ []))
    room-numbers = part_room _ _ room left-0.left

    module _ (b₁ : List ℕ) (at₁ : ℕ) (w₁ : Wrote b₀ 0 (section (encode 8) (clock_of ws ∷ next_of ws ∷ [])) b₁ at₁) where
      left-1 : PartsLeft 1 ws s b₀ b₁ at₁
      left-1 = record { room = room; left = part-put _ _ room left-0.left w₁ }

      pub room-exporters : Room b₁ at₁ (section_of Exporters (sorted e))
      room-exporters = part_room _ _ room left-1.left

      module _ (b₂ : List ℕ) (at₂ : ℕ) (w₂ : Wrote b₁ at₁ (section_of Exporters (sorted e)) b₂ at₂) where
        pub left-2 : PartsLeft 2 ws s b₀ b₂ at₂
        left-2 = record { room = room; left = part-put _ _ room left-1.left w₂ }

  module _ (b₂ : List ℕ) (at₂ : ℕ) (k : PartsLeft 2 ws s b₀ b₂ at₂) where
    pub room-objects : Room b₂ at₂ (section_of Objects (sorted e))
    room-objects = part_room _ _ k.room k.left

    module _ (b₃ : List ℕ) (at₃ : ℕ) (w₃ : Wrote b₂ at₂ (section_of Objects (sorted e)) b₃ at₃) where
      left-3 : PartsLeft 3 ws s b₀ b₃ at₃
      left-3 = record { room = k.room; left = part-put _ _ k.room k.left w₃ }

      pub room-interfaces : Room b₃ at₃ (section_of Interfaces (sorted e))
      room-interfaces = part_room _ _ k.room left-3.left

      pub left-4 : (b₄ : List ℕ) (at₄ : ℕ) → Wrote b₃ at₃ (section_of Interfaces (sorted e)) b₄ at₄ → PartsLeft 4 ws s b₀ b₄ at₄
      left-4 b₄ at₄ w₄ = record { room = k.room; left = part-put _ _ k.room left-3.left w₄ }

  module _ (b₄ : List ℕ) (at₄ : ℕ) (k : PartsLeft 4 ws s b₀ b₄ at₄) where
    pub room-sets : Room b₄ at₄ (section_of Sets (sorted e))
    room-sets = part_room _ _ k.room k.left

    pub all-put : (b₅ : List ℕ) (at₅ : ℕ) → Wrote b₄ at₄ (section_of Sets (sorted e)) b₅ at₅ → Wrote b₀ 0 (snapshot_bytes e) b₅ at₅
    all-put b₅ at₅ w₅ = parts-end (part-put _ [] k.room k.left w₅)
