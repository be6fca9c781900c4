-- The four sections, read one after the other into a table without entries, are the entries of the bytes; those of a snapshot fit.
use Prim.Native.Nat.{ℕ, ◌≤◌, min}
use mathlib.Core.Path.{◌≡◌, refl, sym, ap, subst, ◌∙◌}
use mathlib.Core.Bool.{true, false}
use mathlib.Core.List.{List, [], ◌∷◌, map}
use native.Mathlib.Omega.{arith}
use lib.ListN.{length, get_or, drop}
use lib.Seq.{drop-drop}
use Rattle.std.specs.Prelude.{Option, Some, None, is_some}
use Rattle.kinds.proofs.Refusing.{true-false}
use Rattle.fields.specs.Fields.{field}
use Rattle.fields.proofs.Fields.{field-drop}
use Rattle.lists.specs.Lists.{every, keep, among}
use Rattle.lists.proofs.Tests.{and_intro}
use Rattle.rules.specs.Entries.{Exporter, Object, Interface, PingSet, Entries, Ordered, oids, lists_length, with_exporters, with_objects, with_interfaces, with_sets}
use Rattle.rules.specs.Sound.{sound}
use Rattle.rules.specs.Snapshot.{Front, read_row, read_section, read_number, read_exporter, read_object, read_interface, read_set, entries_of, placed, is_snapshot}
use Rattle.rules.proofs.SoundLaws.{sound-fields, clause-at, none, ◌and◌}
use Rattle.rules.proofs.Swapping.{Snapshot, snapshot-fields, loads-ordered}
use Rattle.snapshot_rows.specs.declared.Section.{Section}
use Rattle.snapshot_rows.specs.declared.Section.TheVariants.{Exporters, Objects, Interfaces, Sets}
use Rattle.snapshot_reader.specs.ReadRows.{Left, with_section, in_order, fits}
use Rattle.snapshot_reader.specs.ReadSections.{begun, ReadsSection, SectionRead, TableRead}
use Rattle.snapshot_reader.proofs.rows.RowFields.{drop-within}
use Rattle.snapshot_reader.proofs.rows.Walk.{kept-in-order}
use Rattle.snapshot_reader.proofs.sections.Refused.{no-snapshot, table-refused}
use Rattle.snapshot_reader.proofs.sections.RowByRow.{rows-read}

-- ---- the two numbers

abbrev numbers : List ℕ → Front (List ℕ)
numbers s = record { value = field s 2 8 ∷ field s 10 8 ∷ []; rest = drop 18 s }

two-numbers : (s : List ℕ) → field s 0 2 ≡ 2 → read_section read_number s ≡ numbers s
unfolding read_row read_number
two-numbers s c =
    rw c
    (λ u. record {
      value = field-drop s 2 0 8 (omega arith) u ∷ (ap (λ (l : List ℕ). field l 0 8) (drop-drop 8 2 s) ∙ field-drop s 10 0 8 (omega arith)) u ∷ [];
      rest = (ap (drop 8) (drop-drop 8 2 s) ∙ drop-drop 8 10 s) u;
    })

-- ---- what has been read, section by section

module _ (s : List ℕ) where
  abbrev exporter_front : Front (List Exporter)
  exporter_front = read_section read_exporter (drop 18 s)

  abbrev object_front : Front (List Object)
  object_front = read_section read_object exporter_front.rest

  abbrev interface_front : Front (List Interface)
  interface_front = read_section read_interface object_front.rest

  abbrev set_front : Front (List PingSet)
  set_front = read_section read_set interface_front.rest

  -- before the sections, and after each of them
  abbrev pub left0 : Left
  left0 = record { entries = begun s; rest = drop 18 s }

  abbrev pub left1 : Left
  left1 = record { entries = with_exporters exporter_front.value (begun s); rest = exporter_front.rest }

  abbrev pub left2 : Left
  left2 = record { entries = with_objects object_front.value left1.entries; rest = object_front.rest }

  abbrev pub left3 : Left
  left3 = record { entries = with_interfaces interface_front.value left2.entries; rest = interface_front.rest }

  abbrev pub left4 : Left
  left4 = record { entries = with_sets set_front.value left3.entries; rest = set_front.rest }

  pub exporters-section : with_section Exporters left0.rest left0.entries ≡ left1
  exporters-section = rows-read Exporters read_exporter with_exporters (begun s) (λ t xs. refl) (λ t. refl) (field (drop 18 s) 0 2) (drop 2 (drop 18 s)) []

  pub objects-section : with_section Objects left1.rest left1.entries ≡ left2
  objects-section = rows-read Objects read_object with_objects left1.entries (λ t xs. refl) (λ t. refl) (field left1.rest 0 2) (drop 2 left1.rest) []

  pub interfaces-section : with_section Interfaces left2.rest left2.entries ≡ left3
  interfaces-section = rows-read Interfaces read_interface with_interfaces left2.entries (λ t xs. refl) (λ t. refl) (field left2.rest 0 2) (drop 2 left2.rest) []

  pub sets-section : with_section Sets left3.rest left3.entries ≡ left4
  sets-section = rows-read Sets read_set with_sets left3.entries (λ t xs. refl) (λ t. refl) (field left3.rest 0 2) (drop 2 left3.rest) []

  -- all that is read are the entries
  pub entries-read : field s 0 2 ≡ 2 → left4.entries ≡ entries_of s
  unfolding entries_of
  entries-read c =
      sym (ap
      (λ (n : Front (List ℕ)).
      let x : Front (List Exporter) = read_section read_exporter n.rest in
      let o : Front (List Object) = read_section read_object x.rest in
      let i : Front (List Interface) = read_section read_interface o.rest in
      let p : Front (List PingSet) = read_section read_set i.rest in
      let e : Entries =
      record { clock = get_or n.value 0 0; next = get_or n.value 1 0; exporters = x.value; objects = o.value; interfaces = i.value; sets = p.value } in
      e)
      (two-numbers s c))

  -- ---- what fits

  -- a table without entries of a kind
  pub exporters-none : fits Exporters left0.entries ≡ true
  unfolding fits every lists_length
  exporters-none = (refl and refl and refl and none).together

  pub objects-none : fits Objects left1.entries ≡ true
  unfolding fits
  objects-none = (refl and refl and none).together

  pub interfaces-none : fits Interfaces left2.entries ≡ true
  unfolding fits
  interfaces-none = refl

  pub sets-none : fits Sets left3.entries ≡ true
  unfolding fits every
  sets-none = (refl and refl and none).together

  module _ (c : field s 0 2 ≡ 2) (t : is_snapshot s ≡ true) where
    abbrev h : Snapshot s
    h = snapshot-fields s t

    same : left4.entries ≡ entries_of s
    same = entries-read c

    places : placed left4.entries ≡ true
    places = ap placed same ∙ h.places

    pub exporters-fit : fits Exporters left1.entries ≡ true
    unfolding fits placed
    exporters-fit =
        let f = sound-fields left4.entries (ap sound same ∙ h.sound) in
        (clause-at _ 0 places and f.lists_kept and f.lists_inside and none).together

    pub objects-fit : fits Objects left2.entries ≡ true
    unfolding fits placed
    objects-fit = (clause-at _ 1 places and refl and none).together

    pub interfaces-fit : fits Interfaces left3.entries ≡ true
    unfolding fits placed
    interfaces-fit = clause-at _ 2 places

    -- members stand in the order of the objects
    ordered : (ids : List ℕ) (ps : List PingSet) → map (λ (p : PingSet). keep (among p.members) ids) ps ≡ map (λ (p : PingSet). p.members) ps
        → every (λ (p : PingSet). in_order ids p.members) ps ≡ true
    unfolding every
    ordered ids [] e = refl
    ordered ids (p ∷ ps) e =
        let m : keep (among p.members) ids ≡ p.members = cc in
        let r : map (λ (q : PingSet). keep (among q.members) ids) ps ≡ map (λ (q : PingSet). q.members) ps = cc in
        and_intro (in_order ids p.members) _ (ap (in_order ids) (sym m) ∙ kept-in-order (among p.members) ids) (ordered ids ps r)

    pub sets-fit : fits Sets left4.entries ≡ true
    unfolding fits placed
    sets-fit = (clause-at _ 3 places and ordered (oids left4.entries) left4.entries.sets (subst (λ (e : Entries). Ordered e) (sym same) (loads-ordered s t)) and none).together

-- ---- the state of reading

-- so far these entries have been read, and what is left begins at a place
pub record Reached (s : List ℕ) (l : Left) (e : Entries) (at : ℕ) : Type 0 where
  pub entries : e ≡ l.entries
  pub rest : drop at s ≡ l.rest
  pub inside : at ≤ length s

pub reached-begun : (s : List ℕ) (e : Entries) (at : ℕ) → e ≡ begun s → at ≡ min 18 (length s) → Reached s (left0 s) e at
reached-begun s e at b a = record { entries = b; rest = rw a (drop-within s 18); inside = omega arith }

module _ (k : Section) {s : List ℕ} {l l' : Left} {e : Entries} {at : ℕ} (q : Reached s l e at) (n : with_section k l.rest l.entries ≡ l') where
  as-left : with_section k (drop at s) e ≡ l'
  as-left = (λ u. with_section k (q.rest u) (q.entries u)) ∙ n

  -- a section is read
  pub reached-next : {e' : Entries} {to : ℕ} → ReadsSection k s at e to e' → Reached s l' e' to
  reached-next h = record { entries = h.entries ∙ ap (λ (x : Left). x.entries) as-left; rest = h.rest ∙ ap (λ (x : Left). x.rest) as-left; inside = h.inside }

  -- bytes whose section does not fit, where that of a snapshot does, are no snapshot
  pub reached-refused : (is_snapshot s ≡ true → fits k l'.entries ≡ true) → fits k (with_section k (drop at s) e).entries ≡ false → (x : Entries) → TableRead s false x
  reached-refused f h x = table-refused s x (no-snapshot s _ _ (ap (λ (y : Left). fits k y.entries) as-left) f h)

-- ---- section by section

module _ {s : List ℕ} {e₀ e₁ : Entries} {at a : ℕ} (b : e₀ ≡ begun s) (p : at ≡ min 18 (length s)) (x : ReadsSection Exporters s at e₀ a e₁) where
  pub exporters-reached : Reached s (left1 s) e₁ a
  exporters-reached = reached-next Exporters (reached-begun s e₀ at b p) (exporters-section s) x

  module _ {e₂ : Entries} {b₂ : ℕ} (o : ReadsSection Objects s a e₁ b₂ e₂) where
    pub objects-reached : Reached s (left2 s) e₂ b₂
    objects-reached = reached-next Objects exporters-reached (objects-section s) o

    pub interfaces-reached : {e₃ : Entries} {b₃ : ℕ} → ReadsSection Interfaces s b₂ e₂ b₃ e₃ → Reached s (left3 s) e₃ b₃
    interfaces-reached i = reached-next Interfaces objects-reached (interfaces-section s) i

-- the sets are the last
pub sets-read : {s : List ℕ} {e e' : Entries} {at : ℕ} (r : Option ℕ) → Reached s (left3 s) e at → field s 0 2 ≡ 2 → SectionRead Sets s at e r e' → TableRead s (is_some r) e'
sets-read {s} None q c h = reached-refused Sets q (sets-section s) (sets-fit s c) h _
sets-read {s} (Some to) q c h = record { entries = λ t. (reached-next Sets q (sets-section s) h).entries ∙ entries-read s c; refused = λ f. absurd (true-false f) }
