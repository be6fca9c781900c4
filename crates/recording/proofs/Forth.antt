-- Bytes that are neither short nor broken are those of the records that are read.
use Prim.Native.Nat.{ℕ, zero, suc, ◌+◌, ◌*◌, ◌/◌, ◌%◌, ◌<◌, ◌≤◌}
use mathlib.Core.Path.{◌≡◌, refl, sym, ap, ◌∙◌}
use mathlib.Core.Bool.{Bool, true, false, cond, not}
use mathlib.Core.List.{List, [], ◌∷◌, ◌++◌, map, append_assoc, append-nil}
use mathlib.Core.Logic.{⊎_elim}
use native.Mathlib.Omega.{arith}
use borrow.Author.Tests.{eqb-true, ne_eqb, leb-true, ltb-true, ltb-false, not-false}
use lib.ListN.{length, get_or, take, drop, length-replicate, take-append-drop}
use lib.Seq.{drop-length, length-take-le}
use lib.Dec.{eqb, ltb}
use Rattle.kinds.proofs.Refusing.{or-false}
use Rattle.fields.specs.Fields.{encode, field, zeros, Bytes}
use Rattle.fields.proofs.Fields.{field-then, drop-bytes, take-bytes}
use Rattle.lists.specs.Lists.{tabulate, every}
use Rattle.lists.proofs.Tests.{same_or_not, and_left, and_right}
use Rattle.lists.proofs.Lists.{get_d_tabulate, tabulate-ext}
use Rattle.rules.specs.Calls.{Call}
use Rattle.rules.specs.Rules.{flag}
use Rattle.rules.specs.Snapshot.{in_row}
use Rattle.rules.proofs.SoundLaws.{clause-at}
use Rattle.recording.specs.Recording.{call_bytes, first_list, second_list, forms, form_of, numbers_of, whole, mark_fits, answer_bytes}
use Rattle.recording.specs.Recording.{Sections, section, sections_bytes, sections_in, record_bytes, recording_bytes, section_in, behind_section, behind_sections, sections_at, records_in}
use Rattle.recording.specs.Recording.{behind_records, count_of, sections_of, left_over, call_of, answer_of, recorded_of, records_of, short_section, short_sections, short_records, is_short, form_fits, well_formed, is_broken}
use Rattle.recording.specs.Statements.{OneForm}
use Rattle.recording.proofs.Numbers.{Wide, wide, fields}
use Rattle.recording.proofs.Formed.{code_number, numbers_in, numbered}

-- ---- fields in a row

unfoldable tiles : List ℕ → ℕ → List ℕ → List Wide
tiles s at [] = []
tiles s at (w ∷ ws) = wide w (field s at w) ∷ tiles s (at + w) ws

unfoldable sum : List ℕ → ℕ
sum [] = 0
sum (w ∷ ws) = w + sum ws

tiled : (s : List ℕ) (at : ℕ) (ws : List ℕ) → Bytes s → at + sum ws ≡ length s → drop at s ≡ fields (tiles s at ws)
unfolding tiles sum fields
tiled s at [] b e = let z : at ≡ length s = omega arith in ap (λ (n : ℕ). drop n s) z ∙ drop-length s
tiled s at (w ∷ ws) b e = field-then s at w (fields (tiles s (at + w) ws)) b (omega arith) (tiled s (at + w) ws b (omega arith))

-- numbers of one width
rowed : (w n : ℕ) (s : List ℕ) (at : ℕ) → Bytes s → at + w * n ≡ length s → drop at s ≡ in_row (encode w) (tabulate n (λ k. field s (at + w * k) w))
unfolding in_row tabulate
rowed w zero s at b e = let z : at ≡ length s = omega arith in ap (λ (n : ℕ). drop n s) z ∙ drop-length s
rowed w (suc n) s at b e =
    let m : w * suc n ≡ w + w * n = omega arith in
    let z : at ≡ at + w * 0 = omega arith in
    let r = rowed w n s (at + w) b (omega arith) in
    let t = tabulate-ext n (λ k. field s (at + w + w * k) w) (λ k. field s (at + w * suc k) w)
    (λ k l. ap (λ (j : ℕ). field s j w) (let q : w * suc k ≡ w + w * k = omega arith in omega arith)) in
    field-then s at w (in_row (encode w) (tabulate n (λ k. field s (at + w * suc k) w))) b (omega arith) (r ∙ ap (λ (l : List ℕ). in_row (encode w) l) t)
    ∙ ap (λ (j : ℕ). encode w (field s j w) ++ in_row (encode w) (tabulate n (λ k. field s (at + w * suc k) w))) z

-- ---- by code

by_codes : {A : Type 0} (f g : ℕ → A) → tabulate 20 f ≡ tabulate 20 g → (k : ℕ) → k < 20 → f k ≡ g k
by_codes {A} f g e k h = sym (get_d_tabulate 20 f (f 0) k h) ∙ ap (λ (l : List A). get_or l k (f 0)) e ∙ get_d_tabulate 20 g (f 0) k h

unfoldable form_widths : List (List ℕ)
form_widths =
    (8 ∷ [])
    ∷ (8 ∷ 8 ∷ 8 ∷ [])
    ∷ (8 ∷ [])
    ∷ (8 ∷ 8 ∷ 8 ∷ 8 ∷ 8 ∷ 8 ∷ 4 ∷ 1 ∷ [])
    ∷ (8 ∷ 8 ∷ 8 ∷ 8 ∷ 8 ∷ 4 ∷ [])
    ∷ (4 ∷ 8 ∷ 8 ∷ 4 ∷ 4 ∷ [])
    ∷ (4 ∷ 8 ∷ 8 ∷ 4 ∷ 4 ∷ [])
    ∷ (4 ∷ [])
    ∷ (4 ∷ 8 ∷ [])
    ∷ (4 ∷ 8 ∷ [])
    ∷ (8 ∷ [])
    ∷ (8 ∷ 2 ∷ [])
    ∷ (8 ∷ [])
    ∷ (8 ∷ 8 ∷ [])
    ∷ (8 ∷ 8 ∷ [])
    ∷ []
    ∷ (8 ∷ [])
    ∷ []
    ∷ (8 ∷ [])
    ∷ []
    ∷ []

abbrev widths_at : ℕ → List ℕ
widths_at k = get_or form_widths k []

zeros-length : (n : ℕ) → length (zeros n) ≡ n
zeros-length n = length-replicate n 0

-- a mark is one
flag-forth : (n : ℕ) → n ≤ 1 → flag (not (eqb n 0)) ≡ n
flag-forth zero h = refl
flag-forth (suc zero) h = refl
flag-forth (suc (suc n)) h = absurd (omega arith)

-- ---- lists of elements

no_length : (l : List ℕ) → length l ≡ 0 → l ≡ []
no_length [] e = refl
no_length (x ∷ l) e = absurd (omega arith)

elements : (w : ℕ) (l : List ℕ) → Bytes l → w * (length l / w) ≡ length l → in_row (encode w) (numbers_of w l) ≡ l
elements w l b e =
    ap (λ (ns : List ℕ). in_row (encode w) ns)
    (tabulate-ext (length l / w) (λ k. field l (w * k) w) (λ k. field l (0 + w * k) w) (λ k h. ap (λ (j : ℕ). field l j w) (let z : w * k ≡ 0 + w * k = omega arith in z)))
    ∙ sym (rowed w (length l / w) l 0 b (let z : 0 + w * (length l / w) ≡ w * (length l / w) = omega arith in z ∙ e))

pairs-forth : (l : List ℕ) → Bytes l → whole 2 (length l) ≡ true → in_row (encode 2) (numbers_of 2 l) ≡ l
pairs-forth l b h = let r = eqb-true (length l % 2) 0 h in elements 2 l b (omega arith)

words-forth : (l : List ℕ) → Bytes l → whole 8 (length l) ≡ true → in_row (encode 8) (numbers_of 8 l) ≡ l
words-forth l b h = let r = eqb-true (length l % 8) 0 h in elements 8 l b (omega arith)

-- the list of a call by the bytes of its elements
abbrev list_as : ℕ → List ℕ → List ℕ
list_as w l = cond (eqb w 0) [] (cond (eqb w 2) (in_row (encode 2) (numbers_of 2 l)) (cond (eqb w 8) (in_row (encode 8) (numbers_of 8 l)) l))

list-forth : (w : ℕ) (l : List ℕ) → Bytes l → whole w (length l) ≡ true → list_as w l ≡ l
list-forth w l b h =
    ⊎_elim
    (λ z. ap (λ (j : ℕ). list_as j l) z ∙ sym (no_length l (eqb-true (length l) 0 (sym (ap (λ (j : ℕ). whole j (length l)) z) ∙ h))))
    (λ d.
    ⊎_elim
    (λ z. ap (λ (j : ℕ). list_as j l) z ∙ pairs-forth l b (sym (ap (λ (j : ℕ). whole j (length l)) z) ∙ h))
    (λ f.
    ⊎_elim
    (λ z. ap (λ (j : ℕ). list_as j l) z ∙ words-forth l b (sym (ap (λ (j : ℕ). whole j (length l)) z) ∙ h))
    (λ g. λ u. cond (ne_eqb w 0 d u) [] (cond (ne_eqb w 2 f u) (in_row (encode 2) (numbers_of 2 l)) (cond (ne_eqb w 8 g u) (in_row (encode 8) (numbers_of 8 l)) l)))
    (same_or_not w 8))
    (same_or_not w 2))
    (same_or_not w 0)

-- ---- the numbers of an answer

answer-forth : (n : ℕ) (s shown : List ℕ) → Bytes s → length s ≡ 8 + 8 * n
    → answer_bytes (record { number = field s 0 8; values = tabulate n (λ k. field s (8 + 8 * k) 8); shown = shown }) ≡ s
unfolding in_row
answer-forth n s shown b e = sym (field-then s 0 8 (in_row (encode 8) (tabulate n (λ k. field s (8 + 8 * k) 8))) b (omega arith) (rowed 8 n s 8 b (sym e)))

-- ---- a call's section

module _ (s a b : List ℕ) where
  abbrev as_call : ℕ → Call
  as_call k = (form_of k).call s a b

  code-forth : (k : ℕ) → k < 20 → code_number (as_call k) ≡ k
  unfolding tabulate form_of forms
  code-forth = by_codes (λ (k : ℕ). code_number (as_call k)) (λ (k : ℕ). k) refl

  width-forth : (k : ℕ) → k < 20 → (form_of k).width ≡ 1 + sum (widths_at k)
  unfolding tabulate form_of forms sum form_widths
  width-forth = by_codes (λ (k : ℕ). (form_of k).width) (λ (k : ℕ). 1 + sum (widths_at k)) refl

  -- all but the entry of an object, which has a mark
  numbers-forth : (k : ℕ) → k < 20 → cond (eqb k 3) [] (numbers_in (as_call k)) ≡ cond (eqb k 3) [] (tiles s 1 (widths_at k))
  unfolding tabulate form_of forms tiles form_widths
  numbers-forth =
      by_codes (λ (k : ℕ). cond (eqb k 3) [] (numbers_in (as_call k))) (λ (k : ℕ). cond (eqb k 3) [] (tiles s 1 (widths_at k))) (simp zeros-length)

  object-forth : field s 53 1 ≤ 1 → numbers_in (as_call 3) ≡ tiles s 1 (widths_at 3)
  unfolding form_of forms tiles form_widths
  object-forth h =
      ap
      (λ (v : ℕ).
      wide 8 (field s 1 8)
      ∷ wide 8 (field s 9 8)
      ∷ wide 8 (field s 17 8)
      ∷ wide 8 (field s 25 8)
      ∷ wide 8 (field s 33 8)
      ∷ wide 8 (field s 41 8)
      ∷ wide 4 (field s 49 4)
      ∷ wide 1 v
      ∷ [])
      (flag-forth (field s 53 1) h)

  numbers-all : (k : ℕ) → k < 20 → (k ≡ 3 → field s 53 1 ≤ 1) → numbers_in (as_call k) ≡ tiles s 1 (widths_at k)
  numbers-all k h m =
      ⊎_elim
      (λ e. ap (λ (j : ℕ). numbers_in (as_call j)) e ∙ object-forth (m e) ∙ ap (λ (j : ℕ). tiles s 1 (widths_at j)) (sym e))
      (λ d.
      let n = ne_eqb k 3 d in
      sym (ap (λ (z : Bool). cond z [] (numbers_in (as_call k))) n) ∙ numbers-forth k h ∙ ap (λ (z : Bool). cond z [] (tiles s 1 (widths_at k))) n)
      (same_or_not k 3)

  pub call-forth : Bytes s → field s 0 1 < 20 → length s ≡ (form_of (field s 0 1)).width → (field s 0 1 ≡ 3 → field s 53 1 ≤ 1) → call_bytes (as_call (field s 0 1)) ≡ s
  unfolding tiles sum
  call-forth y h l m =
      let k : ℕ = field s 0 1 in
      let w = width-forth k h in
      (numbered (as_call k)).bytes
      ∙ (λ u. fields (wide 1 (code-forth k h u) ∷ numbers-all k h m u))
      ∙ sym (tiled s 0 (1 ∷ widths_at k) y (omega arith))

  first-as : (k : ℕ) → k < 20 → first_list (as_call k) ≡ list_as (form_of k).first a
  unfolding tabulate form_of forms first_list
  first-as = by_codes (λ (k : ℕ). first_list (as_call k)) (λ (k : ℕ). list_as (form_of k).first a) refl

  second-as : (k : ℕ) → k < 20 → second_list (as_call k) ≡ list_as (form_of k).second b
  unfolding tabulate form_of forms second_list
  second-as = by_codes (λ (k : ℕ). second_list (as_call k)) (λ (k : ℕ). list_as (form_of k).second b) refl

-- ---- the sections of a record that is well formed

abbrev form_clauses : List ℕ → ℕ → ℕ → ℕ → List Bool
form_clauses s first second answer =
    ltb (field s 0 1) (length forms)
    ∷ eqb (length s) (form_of (field s 0 1)).width
    ∷ whole (form_of (field s 0 1)).first first
    ∷ whole (form_of (field s 0 1)).second second
    ∷ mark_fits (form_of (field s 0 1)).mark s
    ∷ eqb answer (8 + 8 * (form_of (field s 0 1)).values)
    ∷ []

module _ (x : Sections) (w : well_formed x ≡ true) where
  clause : (i : ℕ) → get_or (form_clauses x.call (length x.first) (length x.second) (length x.answer)) i true ≡ true
  unfolding form_fits
  clause i = clause-at (form_clauses x.call (length x.first) (length x.second) (length x.answer)) i w

  known : field x.call 0 1 < 20
  unfolding forms
  known = ltb-true (field x.call 0 1) 20 (clause 0)

  marked : field x.call 0 1 ≡ 3 → field x.call 53 1 ≤ 1
  unfolding forms form_of
  marked e = leb-true (field x.call 53 1) 1 (sym (ap (λ (j : ℕ). mark_fits (form_of j).mark x.call) e) ∙ clause 4)

  pub sections-forth : Bytes x.call → Bytes x.first → Bytes x.second → Bytes x.answer → sections_in (recorded_of x) ≡ x
  unfolding call_of answer_of
  sections-forth bc bf bs ba =
      let k : ℕ = field x.call 0 1 in
      let c = call-forth x.call x.first x.second bc known (eqb-true _ _ (clause 1)) marked in
      let f = first-as x.call x.first x.second k known ∙ list-forth (form_of k).first x.first bf (clause 2) in
      let g = second-as x.call x.first x.second k known ∙ list-forth (form_of k).second x.second bs (clause 3) in
      let a = answer-forth (form_of k).values x.answer x.shown ba (eqb-true _ _ (clause 5)) in
      λ u. record { call = c u; first = f u; second = g u; answer = a u; shown = x.shown }

-- ---- sections in a row

behind-one : (s : List ℕ) → Bytes s → Bytes (behind_section s)
behind-one s b = drop-bytes (drop 8 s) (field s 0 8) (drop-bytes s 8 b)

section-bytes : (s : List ℕ) → Bytes s → Bytes (section_in s)
section-bytes s b = take-bytes (field s 0 8) (drop 8 s) (drop-bytes s 8 b)

behind-bytes : (n : ℕ) (s : List ℕ) → Bytes s → Bytes (behind_sections n s)
unfolding behind_sections
behind-bytes zero s b = b
behind-bytes (suc n) s b = behind-bytes n (behind_section s) (behind-one s b)

section-forth : (s : List ℕ) → Bytes s → short_section s ≡ false → section (section_in s) ++ behind_section s ≡ s
unfolding section
section-forth s b h =
    let n : ℕ = field s 0 8 in
    let d : List ℕ = drop 8 s in
    let o = or-false (ltb (length s) 8) (ltb (length d) n) h in
    let l = length-take-le n d (ltb-false (length d) n o.1) in
    append_assoc (encode 8 (length (take n d))) (take n d) (drop n d)
    ∙ (λ u. encode 8 (l u) ++ take-append-drop n d u)
    ∙ sym (field-then s 0 8 d b (ltb-false (length s) 8 o.0) refl)

unfoldable parts : ℕ → List ℕ → List (List ℕ)
parts zero s = []
parts (suc n) s = section_in s ∷ parts n (behind_section s)

parts-forth : (n : ℕ) (s : List ℕ) → Bytes s → short_sections n s ≡ false → in_row section (parts n s) ++ behind_sections n s ≡ s
unfolding in_row behind_sections short_sections parts
parts-forth zero s b h = refl
parts-forth (suc n) s b h =
    let o = or-false (short_section s) (short_sections n (behind_section s)) h in
    append_assoc (section (section_in s)) (in_row section (parts n (behind_section s))) (behind_sections n (behind_section s))
    ∙ ap (λ (r : List ℕ). section (section_in s) ++ r) (parts-forth n (behind_section s) (behind-one s b) o.1)
    ∙ section-forth s b o.0

five : (s : List ℕ) → sections_bytes (sections_at s) ≡ in_row section (parts 5 s)
unfolding sections_bytes sections_at parts behind_sections
five s = refl

-- ---- records in a row

at_front : (s : List ℕ) → Bytes s → well_formed (sections_at s) ≡ true → record_bytes (recorded_of (sections_at s)) ≡ in_row section (parts 5 s)
unfolding sections_at
at_front s b w =
    ap sections_bytes
    (sections-forth (sections_at s) w (section-bytes s b) (section-bytes (behind_sections 1 s) (behind-bytes 1 s b)) (section-bytes (behind_sections 2 s) (behind-bytes 2 s b))
    (section-bytes (behind_sections 3 s) (behind-bytes 3 s b)))
    ∙ five s

records-forth : (n : ℕ) (s : List ℕ) → Bytes s → short_records n s ≡ false → every well_formed (records_in n s) ≡ true
    → in_row record_bytes (map recorded_of (records_in n s)) ++ behind_records n s ≡ s
unfolding in_row records_in behind_records short_records every
records-forth zero s b h w = refl
records-forth (suc n) s b h w =
    let t : List ℕ = behind_sections 5 s in
    let o = or-false (short_sections 5 s) (short_records n t) h in
    append_assoc (record_bytes (recorded_of (sections_at s))) (in_row record_bytes (map recorded_of (records_in n t))) (behind_records n t)
    ∙ (λ u. at_front s b (and_left (well_formed (sections_at s)) (every well_formed (records_in n t)) w) u
    ++ records-forth n t (behind-bytes 5 s b) o.1 (and_right (well_formed (sections_at s)) (every well_formed (records_in n t)) w) u)
    ∙ parts-forth 5 s b o.0

records-length : (n : ℕ) (s : List ℕ) → length (map recorded_of (records_in n s)) ≡ n
unfolding records_in
records-length zero s = refl
records-length (suc n) s = ap suc (records-length n (behind_sections 5 s))

pub one_form : OneForm
unfolding recording_bytes is_short is_broken
one_form s b h k =
    let n : ℕ = count_of s in
    let o = or-false (ltb (length s) 8) (short_records n (drop 8 s)) h in
    let p = or-false (not (every well_formed (sections_of s))) (not (eqb (length (left_over s)) 0)) k in
    let left = no_length (left_over s) (eqb-true _ 0 (not-false _ p.1)) in
    let rows = records-forth n (drop 8 s) (drop-bytes s 8 b) o.1 (not-false _ p.0) in
    let all : in_row record_bytes (records_of s) ≡ drop 8 s = sym (append-nil _) ∙ ap (λ (r : List ℕ). in_row record_bytes (records_of s) ++ r) (sym left) ∙ rows in
    (λ u. encode 8 (records-length n (drop 8 s) u) ++ all u)
    ∙ sym (field-then s 0 8 (drop 8 s) b (ltb-false (length s) 8 o.0) refl)
