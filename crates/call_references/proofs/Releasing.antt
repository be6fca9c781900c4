-- References are given back: refused where the client or the interface's row is not there; else its counts fall, and it goes where none is left.
use Prim.Native.Nat.{ℕ, zero, suc, ◌-◌, ◌<◌, ◌≤◌, min}
use mathlib.Core.Path.{◌≡◌, refl, sym, subst, ap, ◌∙◌}
use mathlib.Core.Bool.{Bool, true, false, not}
use mathlib.Core.List.{List, [], ◌∷◌}
use native.Mathlib.Omega.{arith}
use borrow.Author.Tests.{lt-ltb, le-ltb}
use lib.Dec.{eqb}
use lib.ListN.{length, get_or, set, length-set}
use lib.Seq.{get_or-set_same}
use Rattle.kinds.specs.declared.Guid.{Guid}
use Rattle.lists.specs.Lists.{some, delete_at}
use Rattle.rules.specs.Entries.{Interface, Entries, public_of, private_of, with_interfaces, at_counts, interface_row, oids}
use Rattle.rules.specs.Calls.{Call, Edit}
use Rattle.rules.specs.Sound.{held, proper, set_members_live}
use Rattle.rules.proofs.SoundLaws.{sound-fields}
use Rattle.rules.specs.Rules.{no_interface, flag, refusals, number, next, results, refused_reply, accepted_reply}
use Rattle.rules.proofs.ByRow.{interface_in}
use Rattle.rules.proofs.CountRows.{lessened, release-counted, release-empty, counted-values, empty-values}
use Rattle.table_view.specs.View.{interface_count, interfaces_of, memory, view, Holds, SoundTable, Stepped, oids_of, members_live_in}
use Rattle.table_view.specs.Counts.{counts_at}
use Rattle.table_view.specs.declared.find.InterfaceCounts.{InterfaceCounts}
use Rattle.table_edit.specs.Edits.{Became, change_interface, drop_interface}
use Rattle.table_view.proofs.LiveRows.{interfaces-length}
use Rattle.table_settle.specs.Leaving.{without_leaving}
use Rattle.table_settle.specs.declared.Leaving.TheVariants.{NoInterface}
use Rattle.call_references.specs.Dropping.{Serves, InterfaceDropped}
use Rattle.call_references.specs.Replies.{release_reply}
use Rattle.call_references.specs.declared.Released.{Released}
use Rattle.call_references.proofs.TwoCounts.{counts-as, row_kept}
use Rattle.call_references.proofs.Dropping.{serves-counted}
use Rattle.table_view.proofs.Steps.{refused-step, accepted-step, row_gives, row-passes, gone-gives, live-passes, rows_end, interface-tested}

-- a row that is changed and then taken out
delete-set : {A : Type 0} (i : ℕ) (xs : List A) (x : A) → delete_at i (set xs i x) ≡ delete_at i xs
unfolding delete_at
delete-set i [] x = refl
delete-set zero (y ∷ xs) x = refl
delete-set (suc i) (y ∷ xs) x = ap (λ (l : List _). y ∷ l) (delete-set i xs x)

-- what is left of a count
count_left : (asked count taken : ℕ) → taken ≡ min asked count → count - taken ≡ count - asked
count_left asked count taken t = omega arith

module _ (ws s : List ℕ) (c : ℕ) (i : Guid) (p q : ℕ) where
  abbrev call : Call
  call = Call.editing (Edit.release c i p q)

  abbrev e : Entries
  e = view (memory ws s)

  -- what is answered, and the words that are left
  abbrev Answered : Released → List ℕ → Type 0
  Answered r ws' = Stepped call (memory ws s) (release_reply r) (memory ws' s)

  abbrev refused : ℕ → Released
  refused n = record { answer = n; public = 0; private = 0; interfaces = 0; objects = 0 }

  pub no-client : 7 < c → Answered (refused 20) ws
  unfolding refused_reply results number refusals
  no-client h = refused-step 20 (row_gives _ _ _ refl (lt-ltb 7 c h)) (λ z. omega arith)

  -- the client, and the row that was found, of as many as were counted
  module _ (client : c ≤ 7) (n : ℕ) (counted : n ≡ interface_count ws) (r : ℕ) where
    pub no-interface : n ≤ r → Holds (λ f. r ≡ interface_row f i) ws → Answered (refused 6) ws
    unfolding refused_reply results number refusals
    no-interface h found =
        refused-step 6 (gone-gives (interface-tested ws s i (found s) counted) _ _ (row-passes _ _ _ refl (le-ltb 7 c client)) h) (λ z. omega arith)

    module _ (live : r < n) (found : Holds (λ f. r ≡ interface_row f i) ws) where
      -- accepted, with what is answered
      released : (ws' : List ℕ) (a b o d : ℕ) → view (memory ws' s) ≡ next call e → (results call e).values ≡ a ∷ b ∷ o ∷ d ∷ []
          → Answered (record { answer = 0; public = a; private = b; interfaces = o; objects = d }) ws'
      unfolding accepted_reply results number refusals
      released ws' a b o d v w =
          let z = rows_end (live-passes (interface-tested ws s i (found s) counted) _ _ (row-passes _ _ _ refl (le-ltb 7 c client)) live) in
          subst (λ (vs : List ℕ). Stepped call (memory ws s) (record { number = 0; values = vs; part = []; buffer = [] }) (memory ws' s)) w (accepted-step 0 z refl _ v)

      below : interface_row e i < length (interfaces_of ws)
      below = let l = interfaces-length ws in let f = found s in omega arith

      here : get_or (interfaces_of ws) r no_interface ≡ interface_in e i
      here = ap (λ (j : ℕ). get_or (interfaces_of ws) j no_interface) (found s)

      -- what its counts are, and what is taken of them
      module _ (h : InterfaceCounts) (counts : h ≡ counts_at ws r c) (taken : ℕ) (takes : taken ≡ min p h.public) (taken₂ : ℕ) (takes₂ : taken₂ ≡ min q h.private) where
        abbrev stored : Interface → Interface
        stored = at_counts c (λ (m : ℕ). h.public - taken) (λ (m : ℕ). h.private - taken₂)

        public-left : h.public - taken ≡ public_of (interface_in e i) - p
        public-left = count_left p _ taken takes ∙ rw (counts, here)

        private-left : h.private - taken₂ ≡ private_of c (interface_in e i) - q
        private-left = count_left q _ taken₂ takes₂ ∙ rw (counts, here)

        -- what is stored in the row is what the rules leave
        less-here : stored (get_or (interfaces_of ws) r no_interface) ≡ lessened e c i p q
        less-here =
            ap stored here
            ∙ counts-as c _ _ (interface_in e i) (λ (m : ℕ). m - p) (λ (m : ℕ). m - q) public-left private-left

        took : (b d : ℕ) → min p (public_of (interface_in e i)) ∷ min q (private_of c (interface_in e i)) ∷ b ∷ d ∷ [] ≡ taken ∷ taken₂ ∷ b ∷ d ∷ []
        took b d = rw (takes, takes₂, counts, here)

        -- the counts are stored
        module _ (ws' : List ℕ) (b : Became (change_interface r stored) ws ws') (t : SoundTable (memory ws s)) (x : Bool) where
          lessened-here : get_or (interfaces_of ws') r no_interface ≡ lessened e c i p q
          lessened-here =
              ap (λ (f : Entries). get_or f.interfaces r no_interface) (b s)
              ∙ get_or-set_same (interfaces_of ws) r _ no_interface (let l = interfaces-length ws in omega arith)
              ∙ less-here

          -- a count is left
          pub counted-done : x ≡ true → x ≡ held (get_or (interfaces_of ws') r no_interface)
              → Answered (record { answer = 0; public = taken; private = taken₂; interfaces = 0; objects = 0 }) ws'
          counted-done z tested =
              let l : held (lessened e c i p q) ≡ true = ap held (sym lessened-here) ∙ sym tested ∙ z in
              released ws' taken taken₂ 0 0
              (b s
              ∙ (λ u. with_interfaces (set (interfaces_of ws) (found s u) (less-here u)) e)
              ∙ sym (release-counted e i t.entries below c p q l))
              (counted-values e i t.entries below c p q l ∙ took 0 0)

          -- without the row it is as before
          without-row : drop_interface r (view (memory ws' s)) ≡ drop_interface r e
          without-row = ap (drop_interface r) (b s) ∙ ap (λ (l : List Interface). with_interfaces l e) (delete-set r (interfaces_of ws) _)

          -- none is left
          pub empty-done : x ≡ false → x ≡ held (get_or (interfaces_of ws') r no_interface) → (ws'' : List ℕ) (o : ℕ)
              → ((z : List ℕ) → InterfaceDropped r h.object.0 (view (memory ws' z)) o (view (memory ws'' z)))
              → Answered (record { answer = 0; public = taken; private = taken₂; interfaces = 1; objects = o }) ws''
          empty-done z tested ws'' o drops =
              let d = rw counts at (drops s) in
              let f : held (lessened e c i p q) ≡ false = ap held (sym lessened-here) ∙ sym tested ∙ z in
              let object : ℕ = (get_or (interfaces_of ws) r no_interface).object in
              let left : InterfaceDropped r object e o (view (memory ws'' s)) =
              record {
                became = d.became ∙ ap (without_leaving NoInterface) without-row;
                gone = d.gone ∙ ap (λ (f : Entries). flag (not (some (λ (x : Interface). eqb object x.object) f.interfaces))) without-row;
              } in
              let dropped : InterfaceDropped (interface_row e i) (interface_in e i).object e o (view (memory ws'' s)) = rw (found s) at left in
              released ws'' taken taken₂ 1 o
              (dropped.became ∙ sym (release-empty e i t.entries below c p q f))
              (empty-values e i t.entries below c p q f ∙ rw (← dropped.gone) (took 1 o))

-- what a drop of the interface asks: the row is still there once its counts are stored, and objects, members and who serves whom are as they were
pub record Still (r o : ℕ) (ws : List ℕ) : Type 0 where
  pub live : r < interface_count ws
  pub fine : proper (oids_of ws) ≡ true
  pub members : members_live_in ws ≡ true
  pub serves : Holds (Serves r o) ws

pub still : (ws s : List ℕ) → SoundTable (memory ws s) → (n : ℕ) → n ≡ interface_count ws → (r : ℕ) → r < n → (c : ℕ) (h : InterfaceCounts) → h ≡ counts_at ws r c
    → (p taken : ℕ) → taken ≡ min p h.public → (q taken₂ : ℕ) → taken₂ ≡ min q h.private → (ws' : List ℕ)
    → Became (change_interface r (at_counts c (λ (m : ℕ). h.public - taken) (λ (m : ℕ). h.private - taken₂))) ws ws' → Still r h.object.0 ws'
still ws s t n counted r live c h counts p taken takes q taken₂ takes₂ ws' b =
    let f = sound-fields _ t.entries in
    let l = interfaces-length ws in
    let g : Interface → Interface = at_counts c (λ (m : ℕ). h.public - taken) (λ (m : ℕ). h.private - taken₂) in
    record {
      live = row_kept (change_interface r g) r ws ws' b (λ e. simp length-set) (omega arith);
      fine = ap (λ (x : Entries). proper (oids x)) (b s) ∙ f.objects_proper;
      members = ap set_members_live (b s) ∙ f.set_members_live;
      serves =
          λ z.
          subst (Serves r h.object.0) (sym (b z))
          (serves-counted r h.object.0 g (view (memory ws z)) (λ x. refl) (omega arith)
          (record { its = ap (λ (x : InterfaceCounts). x.object.0) counts; named = f.interface_objects_live; serving = f.objects_have_interfaces }));
    }
