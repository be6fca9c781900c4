-- A record by its code: the call that its form says.
use Prim.Native.Nat.{ℕ, ◌+◌, ◌*◌, ◌<◌}
use mathlib.Core.Path.{◌≡◌, refl, ap, sym, ◌∙◌, subst}
use mathlib.Core.Bool.{Bool, true}
use mathlib.Core.List.{List, [], ◌∷◌}
use borrow.Author.Tests.{eqb-true, ltb-true}
use lib.ListN.{length, get_or, drop}
use lib.Dec.{eqb, ltb}
use Rattle.fields.specs.Fields.{field}
use Rattle.lists.specs.Lists.{tabulate}
use Rattle.lists.proofs.Lists.{get_d_tabulate}
use Rattle.rules.specs.Calls.{Call}
use Rattle.rules.specs.Contract.{Memory}
use Rattle.rules.proofs.SoundLaws.{clause-at}
use Rattle.recording.specs.Recording.{Sections, section_in, behind_section, behind_sections, sections_at, Recorded, Form, forms, form_of}
use Rattle.recording.specs.Recording.{code_of, whole, mark_fits, form_fits, well_formed, call_of, answer_of, recorded_of}
use Rattle.recording.specs.Statements.{value_count}
use Rattle.balance.specs.Sides.{side_of}
use Rattle.recording.specs.declared.Ends.{Ends}
use Rattle.recording.proofs.Places.{Parts}
use Rattle.replay_step.specs.Steps.{answer_in, record_with, CallDone, StepDone}
use Rattle.replay_tally.specs.Sums.{side_as}
use Rattle.replay_groups.specs.Records.{sections, placed, InOrder, RecordDone}
use Rattle.replay_step.specs.declared.Step.{Step}

-- the call of code k
abbrev pub call_as : ℕ → Sections → Call
call_as k x = (form_of k).call x.call x.first x.second

-- what the sections of a well-formed record meet, by the call's and the lengths of the others
abbrev clauses : List ℕ → ℕ → ℕ → ℕ → List Bool
clauses call first second answer =
    let f : Form = form_of (field call 0 1) in
    ltb (field call 0 1) (length forms)
    ∷ eqb (length call) f.width
    ∷ whole f.first first
    ∷ whole f.second second
    ∷ mark_fits f.mark call
    ∷ eqb answer (8 + 8 * f.values)
    ∷ []

-- the code is known
pub code-known : (call : List ℕ) (first second answer : ℕ) → form_fits call first second answer ≡ true → field call 0 1 < 20
unfolding form_fits forms
code-known call first second answer w = ltb-true (field call 0 1) (length forms) (clause-at (clauses call first second answer) 0 w)

-- what is the same in a table of all codes is the same of each
pub by_codes : {A : Type 0} (f g : ℕ → A) → tabulate 20 f ≡ tabulate 20 g → (k : ℕ) → k < 20 → f k ≡ g k
by_codes {A} f g e k h = sym (get_d_tabulate 20 f (f 0) k h) ∙ ap (λ (l : List A). get_or l k (f 0)) e ∙ get_d_tabulate 20 g (f 0) k h

value-count : (x : Sections) (k : ℕ) → k < 20 → value_count (call_as k x) ≡ (form_of k).values
unfolding tabulate form_of forms
value-count x = by_codes (λ (k : ℕ). value_count (call_as k x)) (λ (k : ℕ). (form_of k).values) refl

-- the record is that call with its answer
by_code : (x : Sections) (k : ℕ) → code_of x ≡ k → value_count (call_as k x) ≡ (form_of k).values → record_with (call_as k x) x.answer x.shown ≡ recorded_of x
unfolding call_of answer_of
by_code x k e v =
    (λ u. record { call = call_as k x; answer = answer_in (v u) x.answer x.shown })
    ∙ (λ u. record { call = call_as (sym e u) x; answer = answer_in (form_of (sym e u)).values x.answer x.shown })

-- its code says which number of the tally it moves
pub side-as : (x : Sections) → well_formed x ≡ true → side_of (call_of x) ≡ side_as (code_of x)
unfolding call_of tabulate form_of forms side_as
side-as x w = by_codes (λ (k : ℕ). side_of (call_as k x)) side_as refl (code_of x) (code-known x.call _ _ _ w)

-- ---- a call of code k, which was read as n

pub answers-as : (k : ℕ) (call : List ℕ) (first second answer n : ℕ) → form_fits call first second answer ≡ true → n ≡ field call 0 1 → n ≡ k → answer ≡ 8 + 8 * (form_of k).values
unfolding form_fits
answers-as k call first second answer n w r e =
    eqb-true answer (8 + 8 * (form_of (field call 0 1)).values) (clause-at (clauses call first second answer) 5 w)
    ∙ ap (λ (j : ℕ). 8 + 8 * (form_of j).values) (sym r ∙ e)

pub done-as : (k : ℕ) (call first second answer shown : List ℕ) (m m' : Memory) (d : Step) (n : ℕ) → well_formed (sections call first second answer shown) ≡ true
    → n ≡ field call 0 1 → n ≡ k → CallDone (call_as k (sections call first second answer shown)) answer shown m d m'
    → RecordDone (sections call first second answer shown) m d m'
unfolding call_of
done-as k call first second answer shown m m' d n w r e c =
    let x : Sections = sections call first second answer shown in
    let is : code_of x ≡ k = sym r ∙ e in
    let few : k < 20 = rw is at (code-known call _ _ _ w) in
    record {
      done = subst (λ (r : Recorded). StepDone r m d m') (by_code x k is (value-count x k few)) c.done;
      words = c.words;
      store = c.store;
    }

-- ---- the record from at

pub in_order_lem : (s : List ℕ) (at : ℕ) (e : Ends) → Parts s at e → InOrder (length s) at e
in_order_lem s at e p =
    record {
      call = p.call.after;
      first = p.first.after;
      second = p.second.after;
      answer = p.answer.after;
      shown = p.shown.after;
      inside = p.shown.inside;
    }

pub by-places : (s : List ℕ) (at : ℕ) (e : Ends) → Parts s at e → placed s at e ≡ sections_at (drop at s)
unfolding sections_at behind_sections
by-places s at e p =
    let b1 : behind_section (drop at s) ≡ drop e.call s = p.call.behind in
    let b2 : behind_section (behind_section (drop at s)) ≡ drop e.first s = ap behind_section b1 ∙ p.first.behind in
    let b3 : behind_section (behind_section (behind_section (drop at s))) ≡ drop e.second s = ap behind_section b2 ∙ p.second.behind in
    let b4 : behind_section (behind_section (behind_section (behind_section (drop at s)))) ≡ drop e.answer s = ap behind_section b3 ∙ p.answer.behind in
    let r1 = p.call.read in
    let r2 = ap section_in b1 ∙ p.first.read in
    let r3 = ap section_in b2 ∙ p.second.read in
    let r4 = ap section_in b3 ∙ p.answer.read in
    let r5 = ap section_in b4 ∙ p.shown.read in
    sym (λ u. sections (r1 u) (r2 u) (r3 u) (r4 u) (r5 u))
