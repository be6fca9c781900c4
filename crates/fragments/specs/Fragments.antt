-- References that come in over several packets (document 02, request 8): standard, handler and custom.
use Rattle.std.specs.Prelude.{ℕ, ◌+◌, ◌-◌, ◌*◌, min, ◌≡◌, Bool, false, cond, not, ◌&&◌, ◌||◌, List, [], ◌∷◌, length, take, drop, set, replicate, eqb, ltb, leb}
use Rattle.std.specs.Prelude.{Result, Ok, Err}
use Rattle.kinds.specs.Answers.{refusal_number}
use Rattle.kinds.specs.declared.refusal.Refusal.{Refusal}
use Rattle.fragments.specs.declared.Whole.{Whole}
use Rattle.kinds.specs.Refusals.{◌gives◌, passes, differ, order}
use Rattle.fields.specs.Fields.{field, guid_at, stored, Bytes}
use Rattle.bindings.specs.Bindings.{joined}
use Rattle.contexts.specs.Contexts.{is_marshaler}
use Rattle.elements.specs.Elements.{signature}
use Rattle.references.specs.References.{is_form, is_custom, is_extended, fixed_size, reference_at, no_reference, has_nil, head_answer, reference_answer, tail_of}
use Rattle.references.specs.declared.Reference.{Reference}
use Rattle.list_walk.specs.Walk.{both_closed, due, next_mode, next_seen}
use Rattle.fragments.specs.declared.Fragments.{Fragments}
use Rattle.fragments.specs.declared.Finished.{Finished}

-- the bytes that are kept of every reference: the fixed fields of each form, and N and S of its list
abbrev pub head_size : ℕ
head_size = 84

-- ---- the whole

-- the forms that are read here: all but the extended one
abbrev pub is_plain : ℕ → Bool
is_plain f = is_form f && not (is_extended f)

-- the whole bytes read at once, as before request 5: flags 8 is 14 (under 24 bytes 13), and the object data of a custom reference is not
-- looked into; a standard or handler reference is judged as ever, 22 included
unfoldable pub plain_reference : List ℕ → ℕ
plain_reference s =
    cond (is_extended (field s 4 4)) (cond (ltb (length s) 24) 13 14)
    (cond (is_custom (field s 4 4)) (head_answer s) (reference_answer s))

-- the list or the object data: all bytes after the fixed fields
abbrev pub plain_tail : List ℕ → List ℕ
plain_tail s = drop (fixed_size (field s 4 4)) s

-- with a waiting buffer of w bytes and a final one of n: then 15
unfoldable pub whole_answer : List ℕ → ℕ → ℕ → ℕ
whole_answer s w n = order (passes (plain_reference s) ∷ ltb (min w n) (length (plain_tail s)) gives 15 ∷ [])

abbrev pub finished_by : ℕ → Reference → ℕ → Finished
finished_by a r n = cond (eqb a 0) (record { answer = 0; reference = r; length = n }) (record { answer = a; reference = no_reference; length = 0 })

-- ---- the state and the waiting buffer

pub record Reading : Type 0 where
  pub state : Fragments
  pub waiting : List ℕ

-- before the first fragment, with any buffer
abbrev pub none : Fragments
none = record { head = replicate 84 0; kept = 0; seen = 0; low = 0; mode = due; over = false }

-- the flags, where the header has come and is accepted; 0 before and otherwise
unfoldable pub form_of : List ℕ → ℕ → ℕ
form_of h i = cond (leb 24 i && (eqb (field h 0 4) signature && is_plain (field h 4 4))) (field h 4 4) 0

-- byte number i belongs to the list or the object data, where f is the form so far
unfoldable pub in_tail : ℕ → ℕ → Bool
in_tail f i = differ f 0 && leb (fixed_size f) i

unfoldable pub step_head : List ℕ → ℕ → ℕ → List ℕ
step_head h i b = cond (ltb i head_size) (set h i b) h

-- one byte more, where f is the form so far
unfoldable pub step_in : ℕ → Reading → ℕ → Reading
step_in f r b =
    record {
      state =
          record {
            head = step_head r.state.head r.state.seen b;
            seen = next_seen r.state.seen;
            low = b;
            mode =
                cond (in_tail f r.state.seen && not (is_custom f))
                (next_mode (field r.state.head (fixed_size f) 2) (field r.state.head (fixed_size f + 2) 2) (r.state.seen - fixed_size f) r.state.low r.state.mode b)
                r.state.mode;
            kept = cond (in_tail f r.state.seen && ltb r.state.kept (length r.waiting)) (r.state.kept + 1) r.state.kept;
            over = r.state.over || (in_tail f r.state.seen && leb (length r.waiting) r.state.kept);
          };
      waiting = cond (in_tail f r.state.seen && ltb r.state.kept (length r.waiting)) (set r.waiting r.state.kept b) r.waiting;
    }

unfoldable pub step : Reading → ℕ → Reading
step r b = step_in (form_of r.state.head r.state.seen) r b

-- a fragment
unfoldable pub pushed : Reading → List ℕ → Reading
pushed r [] = r
pushed r (b ∷ bs) = pushed (step r b) bs

-- ---- the end

-- the list's refusals, of t bytes that came
unfoldable pub list_end : List ℕ → ℕ → ℕ → ℕ → ℕ
list_end h start t m =
    order
    (ltb t 4 gives 13
    ∷ ltb t (4 + 2 * field h start 2) gives 13
    ∷ not (both_closed (field h start 2) (field h (start + 2) 2) m) gives 14
    ∷ ltb (4 + 2 * field h start 2) t gives 14
    ∷ [])

-- the reference's refusals
unfoldable pub read_end : List ℕ → ℕ → ℕ → ℕ
read_end h seen m =
    order
    (ltb seen 24 gives 13
    ∷ differ (field h 0 4) signature gives 14
    ∷ not (is_plain (field h 4 4)) gives 14
    ∷ ltb seen (fixed_size (field h 4 4)) gives 13
    ∷ passes (cond (is_custom (field h 4 4)) 0 (list_end h (fixed_size (field h 4 4)) (seen - fixed_size (field h 4 4)) m))
    ∷ [])

-- a standard or handler reference with a zero identifier
abbrev pub is_nil_reference : Reference → Bool
is_nil_reference r = not (is_custom r.flags) && has_nil r.block

-- then 22, then 15
unfoldable pub end_answer : Fragments → ℕ → ℕ → ℕ
end_answer f w n =
    order
    (passes (read_end f.head f.seen f.mode)
    ∷ is_nil_reference (reference_at f.head) gives 22
    ∷ (f.over || ltb (min w n) f.kept) gives 15
    ∷ [])

-- a reference that came whole, or a refusal with zeros, as C takes it
abbrev pub ended : Result Whole Refusal → Finished
ended (Ok x) = record { answer = 0; reference = x.reference; length = x.length }
ended (Err why) = record { answer = refusal_number why; reference = no_reference; length = 0 }

unfoldable pub finished : Reading → ℕ → Finished
finished r n = finished_by (end_answer r.state (length r.waiting) n) (reference_at r.state.head) r.state.kept

-- the final buffer: the list or data at its front where the answer is 0
unfoldable pub final_after : Reading → List ℕ → List ℕ
final_after r b = stored (end_answer r.state (length r.waiting) (length b)) (take r.state.kept r.waiting) b

-- ---- the claim

-- fragments one after the other
unfoldable pub pushed_all : Reading → List (List ℕ) → Reading
pushed_all r [] = r
pushed_all r (f ∷ fs) = pushed_all (pushed r f) fs

-- wherever the cuts fell, with any two buffers: number, fields, length and final buffer are those of the whole
pub record AnyCuts : Type 0 where
  pub answered : (fs : List (List ℕ)) (waiting last : List ℕ) → Bytes (joined fs) →
      finished (pushed_all (record { state = none; waiting = waiting }) fs) (length last)
      ≡ finished_by (whole_answer (joined fs) (length waiting) (length last)) (reference_at (joined fs)) (length (plain_tail (joined fs)))
  pub filled : (fs : List (List ℕ)) (waiting last : List ℕ) → Bytes (joined fs) →
      final_after (pushed_all (record { state = none; waiting = waiting }) fs) last
      ≡ stored (whole_answer (joined fs) (length waiting) (length last)) (plain_tail (joined fs)) last

-- and where request 5 changed nothing, the number and the tail of the whole are those of the reader of whole references
pub record AsRead : Type 0 where
  pub number : (s : List ℕ) → is_extended (field s 4 4) ≡ false → (is_custom (field s 4 4) && is_marshaler (guid_at s 24)) ≡ false → plain_reference s ≡ reference_answer s
  pub tail : (s : List ℕ) → is_extended (field s 4 4) ≡ false → reference_answer s ≡ 0 → plain_tail s ≡ tail_of s
