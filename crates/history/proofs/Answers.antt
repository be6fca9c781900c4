-- Each item of an accepted list counts as a call of its own, with its byte for answer.
use Prim.Native.Nat.{ℕ}
use mathlib.Core.Path.{◌≡◌, refl, sym, ap, ◌∙◌}
use mathlib.Core.Bool.{Bool, true, cond}
use mathlib.Core.List.{List, [], ◌∷◌, ◌++◌, map}
use lib.ListN.{length, get_or, drop, get_or-append}
use lib.Dec.{eqb}
use Rattle.kinds.proofs.Refusing.{by-test}
use Rattle.lists.specs.Lists.{tabulate}
use Rattle.lists.proofs.Lists.{map-append, map-tabulate, length-tabulate, tabulate-ext, tabulate-get_or}
use Rattle.rules.specs.Calls.{Call, starting, looking, editing, Counting, count_list}
use Rattle.rules.specs.Items.{item_at, item_count, items_of, item_call}
use Rattle.rules.specs.Rules.{item_numbers, number, results, accepted_reply, refused_reply, reply}
use Rattle.rules.proofs.Stepping.{reply-number}
use Rattle.rules.proofs.OneByOne.{length-numbers}
use Rattle.history.specs.History.{History, live, items_fed, lived, feed, feed_all, replies, numbers}
use Rattle.history.specs.Runs.{Answered, once, answered, answered_all, calls_in, numbers_in}
use Rattle.history.proofs.Lives.{Kept}
use Rattle.history.proofs.Feeding.{fed}
use Rattle.history.proofs.Items.{items-fed, item-answers}

-- calls in two parts
pub feed-append : (h : History) (cs ds : List Call) → feed_all h (cs ++ ds) ≡ feed_all (feed_all h cs) ds
unfolding feed_all
feed-append h [] ds = refl
feed-append h (c ∷ cs) ds = feed-append (feed h c) cs ds

numbers-append : (h : History) (cs ds : List Call) → numbers h (cs ++ ds) ≡ numbers h cs ++ numbers (feed_all h cs) ds
unfolding feed_all numbers
numbers-append h [] ds = refl
numbers-append h (c ∷ cs) ds = ap (λ (l : List ℕ). number c (live h) ∷ l) (numbers-append (feed h c) cs ds)

-- the calls of a list's answers, fed in place of the list
record Same (c : Call) (h : History) (xs : List Answered) : Type 0 where
  history : feed_all h (calls_in xs) ≡ feed h c
  answers : numbers_in xs ≡ numbers h (calls_in xs)

same_once : (c : Call) (h : History) → Same c h (once c (reply c (live h)))
unfolding feed_all numbers
same_once c h = record { history = refl; answers = ap (λ (n : ℕ). n ∷ []) (reply-number c (live h)) }

-- an accepted list
same-items : (w : Counting) (c : ℕ) (s b : List ℕ) (h : History) → Kept h → eqb (number (count_list w c s b) (live h)) 0 ≡ true
    → Same (count_list w c s b) h (tabulate (item_count s) (λ k. record { call = item_call w c (item_at s k); number = get_or (reply (count_list w c s b) (live h)).buffer k 0 }))
unfolding items_of feed lived reply accepted_reply results
same-items w c s b h k e =
    record {
      history = ap (feed_all h) calls ∙ sym (items-fed w c (items_of s) h) ∙ sym list-fed;
      answers =
          map-tabulate (λ (a : Answered). a.number) (item_count s) _
          ∙ tabulate-ext (item_count s) (λ i. get_or (reply (count_list w c s b) (live h)).buffer i 0) (λ i. get_or ns i 0)
          (λ i d. ap (λ (l : List ℕ). get_or l i 0) written ∙ get_or-append ns _ 0 i (rw size d))
          ∙ ap (λ (m : ℕ). tabulate m (λ i. get_or ns i 0)) (sym size)
          ∙ tabulate-get_or ns 0
          ∙ item-answers w c (items_of s) h k
          ∙ ap (numbers h) (sym calls);
    }
  where
    ns : List ℕ
    ns = item_numbers w c (items_of s) (live h)

    size : length ns ≡ item_count s
    size = length-numbers w c (items_of s) (live h) ∙ length-tabulate (item_count s) (item_at s)

    calls : let r = reply (count_list w c s b) (live h) in
        map (λ (a : Answered). a.call) (tabulate (item_count s) (λ i. record { call = item_call w c (item_at s i); number = get_or r.buffer i 0 })) ≡ map (item_call w c) (items_of s)
    calls = map-tabulate (λ (a : Answered). a.call) (item_count s) _ ∙ sym (map-tabulate (item_call w c) (item_count s) (item_at s))

    list-fed : feed h (count_list w c s b) ≡ items_fed w c (items_of s) h
    list-fed = ap (λ (t : Bool). cond t (items_fed w c (items_of s) h) h) e

    written : (reply (count_list w c s b) (live h)).buffer ≡ ns ++ drop (length ns) b
    written = ap (λ (t : Bool). (cond t (accepted_reply (count_list w c s b) (live h)) (refused_reply (number (count_list w c s b) (live h)) (count_list w c s b) (live h))).buffer) e

same : (c : Call) (h : History) → Kept h → Same c h (answered c (reply c (live h)))
unfolding answered
same (starting s) h k = same_once (starting s) h
same (looking l) h k = same_once (looking l) h
same (editing c) h k = same_once (editing c) h
same (count_list w c s b) h k =
    by-test (Same (count_list w c s b) h) (eqb (reply (count_list w c s b) (live h)).number 0) _ _
    (λ t. same-items w c s b h k (ap (λ (n : ℕ). eqb n 0) (sym (reply-number (count_list w c s b) (live h))) ∙ t))
    (λ t. same_once (count_list w c s b) h)

-- of every run
pub all-answers : (cs : List Call) (h : History) → Kept h
    → (numbers_in (answered_all cs (replies h cs)) ≡ numbers h (calls_in (answered_all cs (replies h cs)))) × (feed_all h cs ≡ feed_all h (calls_in (answered_all cs (replies h cs))))
unfolding answered_all replies feed_all numbers
all-answers [] h k = (refl, refl)
all-answers (c ∷ cs) h k =
    let s = same c h k in
    let xs = answered c (reply c (live h)) in
    let ys = answered_all cs (replies (feed h c) cs) in
    let r = all-answers cs (feed h c) (fed c h k).kept in
    let m = map-append (λ (a : Answered). a.call) xs ys in (
      map-append (λ (a : Answered). a.number) xs ys
          ∙ (λ u. s.answers u ++ r.0 u)
          ∙ ap (λ (g : History). numbers h (calls_in xs) ++ numbers g (calls_in ys)) (sym s.history)
          ∙ sym (numbers-append h (calls_in xs) (calls_in ys))
          ∙ ap (numbers h) (sym m),
      r.1
          ∙ ap (λ (g : History). feed_all g (calls_in ys)) (sym s.history)
          ∙ sym (feed-append h (calls_in xs) (calls_in ys))
          ∙ ap (feed_all h) (sym m),
    )
