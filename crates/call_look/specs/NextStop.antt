-- The next stop (document 01, "Where to go next"): its place, its number and its part, each the result of a function of its own.
use Rattle.std.specs.Prelude.{ℕ, ◌+◌, ◌-◌, ◌≤◌, ◌≡◌, Bool, true, false, cond, List, [], ◌∷◌, length, take, drop, get_or, eqb}
use Rattle.std.specs.Prelude.{Result, Ok, Err}
use Rattle.kinds.specs.Answers.{refusal_number}
use Rattle.kinds.specs.declared.refusal.Refusal.{Refusal}
use Rattle.bindings.specs.declared.Place.{Place}
use Rattle.references.specs.References.{tail_place}
use Rattle.lists.specs.Lists.{first_index}
use Rattle.rules.specs.Entries.{oxids}
use Rattle.rules.specs.Calls.{Call, Look, Reply}
use Rattle.rules.specs.Rules.{no_exporter, is_live_exporter, oxid_of, flag}
use Rattle.rules.specs.Contract.{Memory, reply_to}
use Rattle.table_view.specs.View.{list_start, exporters_of, view, Performed}
use Rattle.call_look.specs.declared.routing.Stop.{Stop}
use Rattle.call_look.specs.declared.routing.Stop.TheVariants.{InStore, InReference}
use Rattle.call_look.specs.declared.routing.StopPlace.{StopPlace}

-- ---- the place

abbrev pub refused_stop : ℕ → StopPlace
refused_stop n = record { answer = n; in_store = false; from = 0; to = 0 }

-- a stop that was found, or a refusal, as C takes it
abbrev pub stopped : Result Stop Refusal → StopPlace
stopped (Ok (InStore there)) = record { answer = 0; in_store = true; from = there.start; to = there.end }
stopped (Ok (InReference there)) = record { answer = 0; in_store = false; from = there.start; to = there.end }
stopped (Err why) = refused_stop (refusal_number why)

-- the list of exporter i, where it stands in the store until a call changes the store
abbrev pub stop_in_store : Memory → ℕ → StopPlace
stop_in_store m i =
    record {
      answer = 0;
      in_store = true;
      from = list_start m.store i;
      to = list_start m.store i + length (get_or (exporters_of m.words m.store) i no_exporter).bindings;
    }

abbrev pub stop_in_reference : Place → StopPlace
stop_in_reference x = record { answer = x.answer; in_store = false; from = x.from; to = x.to }

-- in the store exactly where nothing is refused and the reference's OXID is live
unfoldable pub stop_place : Memory → List ℕ → StopPlace
stop_place m reference =
    let n : ℕ = (reply_to view (Call.looking (Look.next_stop reference)) m).number in
    cond (eqb n 0)
    (cond (is_live_exporter (view m) (oxid_of reference))
    (stop_in_store m (first_index (eqb (oxid_of reference)) (oxids (view m))))
    (stop_in_reference (tail_place reference)))
    (refused_stop n)

-- the bytes in which a place lies
abbrev pub stop_source : StopPlace → List ℕ → List ℕ → List ℕ
stop_source p store reference = cond p.in_store store reference

-- where the part of a place begins in memory, a block and an offset, given where store and reference begin
abbrev pub stop_start : StopPlace → ℕ × ℕ → ℕ × ℕ → ℕ × ℕ
stop_start p store reference = cond p.in_store (store.0, p.from + store.1) (reference.0, p.from + reference.1)

-- ---- the promises

-- a number, whether the part is one of the store, and the part, as the reply of one call
abbrev pub stop_reply : ℕ → Bool → List ℕ → Reply
stop_reply n in_store part = record { number = n; values = flag in_store ∷ []; part = part; buffer = [] }

-- the number, the slice and the bytes of a place
abbrev pub place_reply : StopPlace → List ℕ → List ℕ → Reply
place_reply p store reference = stop_reply p.answer p.in_store (take (p.to - p.from) (drop p.from (stop_source p store reference)))

-- p is answered
pub record StopFound (m : Memory) (reference : List ℕ) (p : StopPlace) : Type 0 where
  pub performed : Performed (Call.looking (Look.next_stop reference)) m (place_reply p m.store reference) m
  pub place : p ≡ stop_place m reference
  pub within : (p.from ≤ p.to) × (p.to ≤ length (stop_source p m.store reference))

-- the bytes part are answered, which begin at start
pub record StopPart (m : Memory) (reference : List ℕ) (store_start reference_start start : ℕ × ℕ) (part : List ℕ) : Type 0 where
  pub bytes : part ≡ (reply_to view (Call.looking (Look.next_stop reference)) m).part
  pub begins : start ≡ stop_start (stop_place m reference) store_start reference_start

-- a number and a part that two functions answered are one call, whose reply says of which slice it is a part: of the one in which it
-- begins (`StopPart`)
abbrev pub OneCall : Type 0
OneCall =
    (m : Memory) (reference : List ℕ) (n : ℕ) (part : List ℕ)
    → n ≡ (reply_to view (Call.looking (Look.next_stop reference)) m).number
    → part ≡ (reply_to view (Call.looking (Look.next_stop reference)) m).part
    → Performed (Call.looking (Look.next_stop reference)) m (stop_reply n (stop_place m reference).in_store part) m
