-- The members of a set by the rows of the objects, and how they change in a complex ping.
use Rattle.std.proofs.Common.{◌≡◌, ℕ, ◌+◌, ◌*◌, ◌/◌, ◌<◌, ◌≤◌, Bool, true, false, cond, not, ◌&&◌, ◌||◌, eqb, ltb, List, [], ◌∷◌, ◌++◌, length, get_or, take, drop, sym, refl, ap, ◌∙◌, ⊎_elim, add-one, arith, take-append-drop, take-suc, le-ltb, lt-ltb, eq-eqb, ne_eqb, eqb-true}
use mathlib.Core.Bool.{and-false, or-true, or-false}
use lib.Seq.{take-length}
use Rattle.kinds.proofs.Refusing.{true-false}
use Rattle.lists.specs.Lists.{keep, some, every, first_index, among}
use Rattle.table_columns.specs.Members.{has_member, InWords, MemberPut}
use Rattle.table_columns.specs.declared.members.Members.{Members}
use Rattle.lists.proofs.Tests.{true-or-false, below_or_not}
use Rattle.lists.proofs.Lists.{every_append, every-nil, every-snoc, some_one, some-append, length-tabulate, get_d_tabulate}
use Rattle.lists.proofs.First.{first-at}
use Rattle.lists.proofs.Distinct.{eqb-decides, first-same}
use Rattle.rules.specs.Sound.{proper}
use Rattle.fields.specs.Fields.{field}
use Rattle.call_ping.specs.Pinging.{oids_in, MembersUpdated, OneListed, AllListed}
use Rattle.std.specs.Prelude.{Option, Some, None, IfSome}
use Rattle.rules.specs.Entries.{oids, object_row}
use Rattle.table_view.specs.View.{object_count, oids_of, memory, view, member_values, Holds}
use Rattle.table_view.proofs.MemberRows.{oids-length}
use Rattle.table_view.proofs.Steps.{object-tested}
use Rattle.table_view.proofs.MemberLaws.{ids-distinct, member-among, members_kept}

module _ (ids : List ℕ) (p : proper ids ≡ true) where
  -- ---- the rows of a list of OIDs

  -- an OID stands at the row that is found for it
  row-test : (oid j : ℕ) → (ltb j (length ids) && among (oid ∷ []) (get_or ids j 0)) ≡ (ltb j (length ids) && eqb j (first_index (eqb oid) ids))
  row-test oid j =
      ⊎_elim
      (λ (b : j < length ids). ap (◌&&◌ (ltb j (length ids))) (some_one (eqb (get_or ids j 0)) oid ∙ found b))
      (λ (b : length ids ≤ j). rw (le-ltb j (length ids) b))
      (below_or_not j (length ids))
    where
      found : j < length ids → eqb (get_or ids j 0) oid ≡ eqb j (first_index (eqb oid) ids)
      found b =
          ⊎_elim
          (λ (t : eqb (get_or ids j 0) oid ≡ true).
          t ∙ sym (eq-eqb j (first_index (eqb oid) ids) (sym (first-same eqb eqb-decides ids 0 j (ids-distinct ids p) b) ∙ ap (λ (o : ℕ). first_index (eqb o) ids) (eqb-true _ _ t))))
          (λ (f : eqb (get_or ids j 0) oid ≡ false).
          f
          ∙ sym
          (ne_eqb j (first_index (eqb oid) ids)
          (λ e.
          let here = first-at (eqb oid) 0 ids (omega arith) in
          true-false (sym (eq-eqb (get_or ids j 0) oid (ap (λ (k : ℕ). get_or ids k 0) e ∙ sym (eqb-true _ _ here))) ∙ f))))
          (true-or-false (eqb (get_or ids j 0) oid))

  module _ (oid : ℕ) (m : Members) where
    abbrev row : ℕ
    row = first_index (eqb oid) ids

    -- an OID that is not live changes nothing
    put-none : (member : Bool) → InWords m → length ids ≤ row → MembersUpdated member ids (oid ∷ []) m m
    put-none member w h =
        record {
          words = w;
          rows =
              λ j.
              ⊎_elim
              (λ (b : j < length ids). rw (row-test oid j, ne_eqb j row (omega arith), and-false (ltb j (length ids))))
              (λ (b : length ids ≤ j). rw (le-ltb j (length ids) b))
              (below_or_not j (length ids));
        }

    module _ (r : Members) (h : row < length ids) where
      -- the test of the row that is found
      here-test : (j : ℕ) → (ltb j (length ids) && among (oid ∷ []) (get_or ids j 0)) ≡ eqb j row
      here-test j =
          row-test oid j
          ∙ ⊎_elim
          (λ (t : eqb j row ≡ true). let e = eqb-true j row t in rw (t, lt-ltb j (length ids) (omega arith)))
          (λ (f : eqb j row ≡ false). rw f (and-false (ltb j (length ids))))
          (true-or-false (eqb j row))

      put_one : {member : Bool} → length ids ≤ 128 → MemberPut row member m r → MembersUpdated member ids (oid ∷ []) m r
      put_one l p = record { words = p.words; rows = λ j. p.rows j ∙ rw (here-test j, lt-ltb row 128 (omega arith)) }

  module _ (member : Bool) where
    -- no OID
    pub put-nil : (m : Members) → InWords m → MembersUpdated member ids [] m m
    unfolding some
    put-nil m w = record { words = w; rows = λ j. rw (and-false (ltb j (length ids))) }

    -- one more
    pub put-snoc : (listed : List ℕ) (oid : ℕ) {m r r' : Members} → MembersUpdated member ids listed m r → MembersUpdated member ids (oid ∷ []) r r'
        → MembersUpdated member ids (listed ++ (oid ∷ [])) m r'
    put-snoc listed oid {m} a b =
        record {
          words = b.words;
          rows =
              λ j.
              let o : ℕ = get_or ids j 0 in
              b.rows j
              ∙ ap (cond (ltb j (length ids) && among (oid ∷ []) o) member) (a.rows j)
              ∙ later (ltb j (length ids)) (among listed o) (among (oid ∷ []) o) (has_member m j)
              ∙ ap (λ (t : Bool). cond (ltb j (length ids) && t) member (has_member m j)) (sym (some-append (eqb o) listed (oid ∷ [])));
        }
      where
        later : (t a b w : Bool) → cond (t && b) member (cond (t && a) member w) ≡ cond (t && (a || b)) member w
        later false a b w = refl
        later true true true w = refl
        later true true false w = refl
        later true false b w = refl

  -- ---- a list that is read element by element, whatever holds it

  module _ (member : Bool) (m : Members) where
    -- none
    listed-none : InWords m → AllListed member ids [] m (Some m)
    listed-none w = record { members = put-nil member m w; live = sym (rw (every-nil (among ids), or-true (not member))) }

    module _ (listed : List ℕ) (k : ℕ) {r : Members} {oid : ℕ} (before : AllListed member ids (take k listed) m (Some r)) (h : k < length listed)
        (e : oid ≡ get_or listed k 0) where
      -- one more
      listed_next : (r' : Option Members) → OneListed member ids oid r r' → AllListed member ids (take (k + 1) listed) m r'
      listed_next r' one =
          rw (add-one k, take-suc listed k 0 h, ← e)
          (record {
            members = more r' one.members;
            live =
                one.live
                ∙ both member (every (among ids) (take k listed)) (among ids oid) before.live
                ∙ ap (◌||◌ (not member)) (sym (every-snoc (among ids) (take k listed) oid));
          })
        where
          more : (x : Option Members) → IfSome x (MembersUpdated member ids (oid ∷ []) r) → IfSome x (MembersUpdated member ids (take k listed ++ (oid ∷ [])) m)
          more None u = u
          more (Some x) u = put-snoc member (take k listed) oid before.members u

          both : (t a b : Bool) → true ≡ (not t || a) → (not t || b) ≡ (not t || (a && b))
          both false a b e = refl
          both true true b e = refl
          both true false b e = absurd (true-false e)

      -- one that is to be added and not live: the others do not matter
      listed-dead : OneListed member ids oid r None → AllListed member ids listed m None
      listed-dead one =
          record {
            members = (listed_next None one).members;
            live =
                past member (every (among ids) (take (k + 1) listed)) (every (among ids) (drop (k + 1) listed)) (listed_next None one).live
                ∙ ap (◌||◌ (not member))
                (sym (every_append (among ids) (take (k + 1) listed) (drop (k + 1) listed)) ∙ ap (every (among ids)) (take-append-drop (k + 1) listed));
          }
        where
          past : (t a b : Bool) → false ≡ (not t || a) → false ≡ (not t || (a && b))
          past false a b e = absurd (true-false (sym e))
          past true true b e = absurd (true-false (sym e))
          past true false b e = refl

    -- all
    listed-all : (listed : List ℕ) (k : ℕ) {r : Option Members} → AllListed member ids (take k listed) m r → k ≡ length listed → AllListed member ids listed m r
    listed-all listed k before e = rw (e, take-length listed) at before

  -- adds, then deletes: the OIDs that stay or join, and are not deleted
  pub new-members : (adds dels : List ℕ) (m a r : Members) → length ids ≤ 128 → ((j : ℕ) → length ids ≤ j → has_member m j ≡ false)
      → MembersUpdated true ids adds m a → MembersUpdated false ids dels a r
      → member_values ids r ≡ keep (λ (o : ℕ). (among (member_values ids m) o || among adds o) && not (among dels o)) ids
  new-members adds dels m a r l none joins leaves =
      members_kept ids p r (λ o. (among (member_values ids m) o || among adds o) && not (among dels o)) l
      (λ j h. leaves.rows j ∙ rw (le-ltb j (length ids) h) (joins.rows j ∙ rw (le-ltb j (length ids) h) (none j h)))
      (λ j h.
      leaves.rows j
      ∙ ap (cond (ltb j (length ids) && among dels (get_or ids j 0)) false) (joins.rows j)
      ∙ rw (lt-ltb j (length ids) h, member-among ids p m j h l) (chosen (has_member m j) (among adds (get_or ids j 0)) (among dels (get_or ids j 0))))
    where
      chosen : (w a d : Bool) → cond d false (cond a true w) ≡ ((w || a) && not d)
      chosen w a true = sym (and-false (w || a))
      chosen w true false = sym (rw (or-true w))
      chosen true false false = refl
      chosen false false false = refl

-- ---- the loop over a list: the OIDs before k

abbrev pub Listing : List ℕ → Bool → List ℕ → Members → ℕ → Members → Type 0
Listing ws member listed m k l = (k ≤ length listed) × AllListed member (oids_of ws) (take k listed) m (Some l)

module _ (ws : List ℕ) (member : Bool) (listed : List ℕ) (m : Members) (p : proper (oids_of ws) ≡ true) where
  pub listing-begin : InWords m → Listing ws member listed m 0 m
  listing-begin w = (omega arith, listed-none (oids_of ws) p member m w)

  pub listing-end : (k : ℕ) (l : Members) → Listing ws member listed m k l → length listed ≤ k → AllListed member (oids_of ws) listed m (Some l)
  listing-end k l before h = let b = before.0 in listed-all (oids_of ws) p member m listed k before.1 (omega arith)

  module _ (k : ℕ) (l : Members) (before : Listing ws member listed m k l) (h : k < length listed) (oid : ℕ) (e : oid ≡ get_or listed k 0) where
    pub listing-next : (l' : Members) → Holds (λ e. OneListed member (oids e) oid l (Some l')) ws → Listing ws member listed m (k + 1) l'
    listing-next l' one = (omega arith, listed_next (oids_of ws) p member m listed k before.1 h e (Some l') (one ws))

    pub listing-dead : Holds (λ e. OneListed member (oids e) oid l None) ws → AllListed member (oids_of ws) listed m None
    listing-dead one = listed-dead (oids_of ws) p member m listed k before.1 h e (one ws)

-- ---- one OID, by the row that was found for it, of as many as were counted

module _ (ws s : List ℕ) (member : Bool) (oid : ℕ) (l : Members) (p : proper (oids_of ws) ≡ true) (n r : ℕ) (counted : n ≡ object_count ws) where
  module _ (h : n ≤ r) (row : Holds (λ e. r ≡ object_row e oid) ws) where
    gone-live : (not member || among (oids (view (memory ws s))) oid) ≡ not member
    gone-live = ap (◌||◌ (not member)) (object-tested ws s oid (row s) counted ∙ le-ltb _ _ h) ∙ or-false (not member)

    pub one-dead : member ≡ true → OneListed member (oids (view (memory ws s))) oid l None
    one-dead t = record { members = tt; live = sym (gone-live ∙ rw t refl) }

    pub one-gone : member ≡ false → InWords l → OneListed member (oids (view (memory ws s))) oid l (Some l)
    one-gone f w =
        let k = oids-length ws in
        let found = row s in
        record { members = put-none (oids_of ws) p oid l member w (omega arith); live = sym (gone-live ∙ rw f refl) }

  pub one-live : r < n → Holds (λ e. r ≡ object_row e oid) ws → (m : Members) → MemberPut r member l m
      → OneListed member (oids (view (memory ws s))) oid l (Some m)
  one-live h row m put =
      let k = oids-length ws in
      let found = row s in
      record {
        members = put_one (oids_of ws) p oid l m (omega arith) (omega arith) (rw found at put);
        live = sym (ap (◌||◌ (not member)) (object-tested ws s oid found counted ∙ lt-ltb _ _ h) ∙ or-true (not member));
      }

-- OIDs in bytes, by number
module _ (s : List ℕ) where
  pub bytes-count : length s / 8 ≡ length (oids_in s)
  bytes-count = sym (length-tabulate (length s / 8) (λ k. field s (8 * k) 8))

  pub bytes-oid : (k : ℕ) → k < length (oids_in s) → field s (8 * k) 8 ≡ get_or (oids_in s) k 0
  bytes-oid k h = sym (get_d_tabulate (length s / 8) (λ k. field s (8 * k) 8) 0 k (rw (← bytes-count) at h))
