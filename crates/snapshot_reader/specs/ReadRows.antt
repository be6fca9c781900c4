-- Reading the sections of a snapshot row by row: what a row adds to the entries, and which entries the sections of a snapshot have.
use Rattle.std.specs.Prelude.{ℕ, zero, suc, ◌+◌, ◌*◌, ◌≤◌, ◌≡◌, Bool, true, false, cond, MatchOption, Option, List, [], ◌∷◌, length, drop, eqb, leb}
use Rattle.fields.specs.Fields.{field}
use Rattle.lists.specs.Lists.{every, tabulate, holding}
use Rattle.rules.specs.Entries.{PingSet, Entries, exporter_places, object_places, interface_places, set_places, oids}
use Rattle.rules.specs.Sound.{lists_kept, lists_inside}
use Rattle.rules.specs.Snapshot.{read_exporter, read_object, read_interface, read_set}
use Rattle.table_columns.specs.declared.members.Members.{Members}
use Rattle.table_view.specs.View.{member_values}
use Rattle.table_edit.specs.Edits.{add_exporter, add_object, add_interface, add_set}
use Rattle.snapshot_rows.specs.declared.Section.{Section}
use Rattle.snapshot_rows.specs.declared.Section.TheVariants.{Exporters, Objects, Interfaces, Sets}

-- ---- rows

-- the entries with the row at the front of bytes
abbrev pub with_row : Section → List ℕ → Entries → Entries
with_row Exporters s e = add_exporter (read_exporter s).value e
with_row Objects s e = add_object (read_object s).value e
with_row Interfaces s e = add_interface (read_interface s).value e
with_row Sets s e = add_set (read_set s).value e

-- the bytes behind it
abbrev pub after_row : Section → List ℕ → List ℕ
after_row Exporters s = (read_exporter s).rest
after_row Objects s = (read_object s).rest
after_row Interfaces s = (read_interface s).rest
after_row Sets s = (read_set s).rest

-- entries, and the bytes that are left
pub record Left : Type 0 where
  pub entries : Entries
  pub rest : List ℕ

-- with n rows
unfoldable pub with_rows : Section → ℕ → List ℕ → Entries → Left
with_rows k zero s e = record { entries = e; rest = s }
with_rows k (suc n) s e = with_rows k n (after_row k s) (with_row k s e)

-- with as many as their count says
abbrev pub with_section : Section → List ℕ → Entries → Left
with_section k s e = with_rows k (field s 0 2) (drop 2 s) e

-- ---- what the entries of a section keep in every snapshot, so that a row that breaks it need not be read

-- the members that are left once an OID is passed
abbrev pub passed : ℕ → List ℕ → List ℕ
passed o [] = []
passed o (m ∷ ms) = cond (eqb o m) ms (m ∷ ms)

-- members stand in the order of these OIDs
unfoldable pub in_order : List ℕ → List ℕ → Bool
in_order [] ms = eqb (length ms) 0
in_order (o ∷ os) ms = in_order os (passed o ms)

unfoldable pub fits : Section → Entries → Bool
fits Exporters e = holding (leb (length e.exporters) exporter_places ∷ lists_kept e ∷ lists_inside e ∷ [])
-- objects come before sets
fits Objects e = holding (leb (length e.objects) object_places ∷ eqb (length e.sets) 0 ∷ [])
fits Interfaces e = leb (length e.interfaces) interface_places
fits Sets e = holding (leb (length e.sets) set_places ∷ every (λ (p : PingSet). in_order (oids e) p.members) e.sets ∷ [])

-- ---- what the code promises

-- of a row at the front of bytes that is read: the entries with it fit, and n bytes of it are passed
pub record ReadsRow (k : Section) (s : List ℕ) (e : Entries) (n : ℕ) (e' : Entries) : Type 0 where
  pub fit : fits k (with_row k s e) ≡ true
  pub entries : e' ≡ with_row k s e
  pub rest : drop n s ≡ after_row k s
  pub inside : n ≤ length s

-- of a row at the front of bytes: it is read where the entries with it fit, and is so many bytes long
abbrev pub RowRead : Section → List ℕ → Entries → Option ℕ → Entries → Type 0
RowRead k s e r e' = MatchOption r (fits k (with_row k s e) ≡ false) (λ n. ReadsRow k s e n e')

-- the n members of a set's row
abbrev pub members_in : List ℕ → ℕ → List ℕ
members_in s n = tabulate n (λ k. field s (20 + 8 * k) 8)

-- of members that are looked for: all were found where they stand in the order of the OIDs, and these are they
abbrev pub MembersFound : List ℕ → List ℕ → Option Members → Type 0
MembersFound ids ms r = MatchOption r (in_order ids ms ≡ false) (λ m. (in_order ids ms ≡ true) × (member_values ids m ≡ ms))
