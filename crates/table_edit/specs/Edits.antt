-- What the edits of array and store do to the live entries.
use Rattle.std.specs.Prelude.{ℕ, suc, ◌-◌, ◌<◌, ◌≤◌, ◌≡◌, not, List, [], ◌∷◌, ◌++◌, ◌⊎◌, length, get_or, set, eqb}
use Rattle.lists.specs.Lists.{delete_at}
use Rattle.table_columns.specs.Rows.{cell, rows, after}
use Rattle.table_columns.specs.Members.{Cut}
use Rattle.table_columns.specs.declared.rows.Kind.{Kind}
use Rattle.rules.specs.Entries.{Exporter, Object, Interface, PingSet, Entries, with_exporters, with_objects, with_interfaces, with_sets, with_members_of}
use Rattle.rules.specs.Rules.{no_object, no_interface}
use Rattle.table_view.specs.View.{set_count, memory, view, members_at}
use Rattle.table_words.specs.Kinds.{set_kind}

-- nothing but the rows of a kind and the word of its count changed
abbrev pub Only : Kind → ℕ → List ℕ → List ℕ → Type 0
Only k at ws ws' = (x : ℕ) → (x ≡ at → ⊥) → (x < k.base) ⊎ (after k ≤ x) → get_or ws' x 0 ≡ get_or ws x 0

-- a row is entered after the n live ones
pub record Pushed (k : Kind) (at n : ℕ) (r ws ws' : List ℕ) : Type 0 where
  pub size : length ws' ≡ length ws
  pub count : get_or ws' at 0 ≡ suc n
  pub rows : rows k ws' (suc n) ≡ rows k ws n ++ (r ∷ [])
  pub only : Only k at ws ws'

-- row i of the n live ones is taken out, and the later ones move down
pub record Pulled (k : Kind) (at n i : ℕ) (ws ws' : List ℕ) : Type 0 where
  pub size : length ws' ≡ length ws
  pub count : get_or ws' at 0 ≡ n - 1
  pub rows : rows k ws' (n - 1) ≡ delete_at i (rows k ws n)
  pub only : Only k at ws ws'

-- bit i is taken out of the members of every live set, and no other word changed
pub record MembersCut (i : ℕ) (ws ws' : List ℕ) : Type 0 where
  pub size : length ws' ≡ length ws
  pub cut : (r : ℕ) → r < set_count ws → Cut i (members_at ws r) (members_at ws' r)
  pub others : (x : ℕ) → (x < cell set_kind 3 0) ⊎ (after set_kind ≤ x) → get_or ws' x 0 ≡ get_or ws x 0

-- the live entries of the array became those that f makes of them, whatever the store holds
abbrev pub Became : (Entries → Entries) → List ℕ → List ℕ → Type 0
Became f ws ws' = (s : List ℕ) → view (memory ws' s) ≡ f (view (memory ws s))

-- ---- what the edits make of the entries

abbrev pub add_object : Object → Entries → Entries
add_object o e = with_objects (e.objects ++ (o ∷ [])) e

abbrev pub add_interface : Interface → Entries → Entries
add_interface i e = with_interfaces (e.interfaces ++ (i ∷ [])) e

abbrev pub add_set : PingSet → Entries → Entries
add_set s e = with_sets (e.sets ++ (s ∷ [])) e

abbrev pub add_exporter : Exporter → Entries → Entries
add_exporter x e = with_exporters (e.exporters ++ (x ∷ [])) e

abbrev pub drop_exporter : ℕ → Entries → Entries
drop_exporter i e = with_exporters (delete_at i e.exporters) e

abbrev pub drop_interface : ℕ → Entries → Entries
drop_interface i e = with_interfaces (delete_at i e.interfaces) e

abbrev pub drop_set : ℕ → Entries → Entries
drop_set i e = with_sets (delete_at i e.sets) e

-- the object at a row leaves its sets too
abbrev pub drop_object : ℕ → Entries → Entries
drop_object i e =
    with_members_of (λ (o : ℕ). not (eqb o (get_or e.objects i no_object).oid)) (with_objects (delete_at i e.objects) e)

-- the entry at a row changed (of a set: `change_set` of the rules)
abbrev pub change_object : ℕ → (Object → Object) → Entries → Entries
change_object i f e = with_objects (set e.objects i (f (get_or e.objects i no_object))) e

abbrev pub change_interface : ℕ → (Interface → Interface) → Entries → Entries
change_interface i f e = with_interfaces (set e.interfaces i (f (get_or e.interfaces i no_interface))) e
