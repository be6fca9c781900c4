-- A fragment at once: where the first 84 bytes have come, each part of the state by itself; before the list or the object data, the head. The
-- code goes by it; it does what `pushed` does (`rest-pushed`, `quiet-pushed`).
use Rattle.std.specs.Prelude.{ℕ, ◌+◌, ◌-◌, ◌<◌, ◌≤◌, min, Bool, cond, not, ◌&&◌, ◌||◌, List, length, get_or, take, eqb, ltb}
use Rattle.kinds.specs.Refusals.{differ}
use Rattle.fields.specs.Fields.{field, written}
use Rattle.references.specs.References.{is_custom, fixed_size}
use Rattle.list_walk.specs.Walk.{limit, mode_after}
use Rattle.fragments.specs.Fragments.{form_of}
use Rattle.fragments.specs.declared.Fragments.{Fragments}

-- the count, the last byte
abbrev pub seen_after : ℕ → ℕ → ℕ
seen_after seen m = cond (ltb seen limit) (min (seen + m) limit) seen

abbrev pub low_after : ℕ → List ℕ → ℕ
low_after low bs = cond (eqb (length bs) 0) low (get_or bs (length bs - 1) 0)

-- the bytes that find room in the waiting buffer, of size bytes
abbrev pub kept_after : Bool → ℕ → ℕ → ℕ → ℕ
kept_after inside kept size m = cond inside (kept + min m (size - kept)) kept

abbrev pub over_after : Bool → Bool → ℕ → ℕ → ℕ → Bool
over_after over inside kept size m = over || (inside && ltb (size - kept) m)

abbrev pub waiting_after : Bool → List ℕ → ℕ → List ℕ → List ℕ
waiting_after inside w kept bs = cond inside (written w kept (take (length w - kept) bs)) w

-- the walk of a form with a list, whose head is h
abbrev pub walk_after : List ℕ → ℕ → ℕ → ℕ → ℕ → List ℕ → ℕ
walk_after h f seen low m bs =
    cond (differ f 0 && not (is_custom f)) (mode_after (field h (fixed_size f) 2) (field h (fixed_size f + 2) 2) (fixed_size f) seen low m bs) m

-- ---- bytes before the list or the object data

-- up to here bytes change the head, the count and the last byte alone
unfoldable pub quiet_end : List ℕ → ℕ → ℕ
quiet_end h seen = cond (ltb seen 24) 24 (fixed_size (form_of h seen))

-- so do n bytes from byte number seen on
abbrev pub Quiet : List ℕ → ℕ → ℕ → Type 0
Quiet h seen n = 0 < n → seen + n ≤ quiet_end h seen

unfoldable pub quiet_after : Fragments → List ℕ → Fragments
quiet_after f bs =
    record {
      head = written f.head f.seen bs;
      kept = f.kept;
      seen = f.seen + length bs;
      low = low_after f.low bs;
      mode = f.mode;
      over = f.over;
    }
