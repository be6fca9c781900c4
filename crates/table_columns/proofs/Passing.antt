-- Rows that a search has passed.
use Rattle.std.proofs.Common.{◌≡◌, ℕ, ◌+◌, ◌≤◌, false, List, [], ◌++◌, length, take, refl, sym, ap, ◌∙◌, arith, length-append}
use mathlib.Core.List.{append_assoc}
use lib.Seq.{take-append_seam}
use Rattle.kinds.specs.declared.Guid.{Guid}
use Rattle.lists.specs.Lists.{some, tabulate}
use Rattle.lists.specs.Guids.{same_guid}
use Rattle.lists.proofs.Lists.{some-append}
use Rattle.table_columns.specs.Guids.{guids}
use Rattle.table_columns.proofs.GuidColumns.{guids-append, length-guids}

-- n words of a column stand before the rest
pub record Front (xs rest : List ℕ) (n : ℕ) : Type 0 where
  pub front : List ℕ
  pub whole : xs ≡ front ++ rest
  pub many : n ≡ length front

pub front-first : (xs rest : List ℕ) → rest ≡ xs → Front xs rest 0
front-first xs rest e = record { front = []; whole = sym e; many = refl }

-- a block of them more
pub front-more : (xs rest b r : List ℕ) (n m : ℕ) → Front xs rest n → rest ≡ b ++ r → length b ≡ m → Front xs r (n + m)
front-more xs rest b r n m p e l = record {
  front = p.front ++ b;
  whole = p.whole ∙ ap (λ (ys : List ℕ). p.front ++ ys) e ∙ sym (append_assoc p.front b r);
  many = omega (arith, length-append p.front b, p.many, l);
}

-- n rows stand before the rests, none of them g's
pub record Passed (lows highs ls hs : List ℕ) (n : ℕ) (g : Guid) : Type 0 where
  pub low : Front lows ls n
  pub high : Front highs hs n
  pub none : some (same_guid g) (guids low.front high.front) ≡ false

pub passed-first : (lows highs ls hs : List ℕ) (g : Guid) → ls ≡ lows → hs ≡ highs → Passed lows highs ls hs 0 g
unfolding some guids tabulate front-first
passed-first lows highs ls hs g e f = record { low = front-first lows ls e; high = front-first highs hs f; none = refl }

pub passed-more : (lows highs ls hs a b l h : List ℕ) (n m : ℕ) (g : Guid) → Passed lows highs ls hs n g → ls ≡ a ++ l → hs ≡ b ++ h → length a ≡ m → length b ≡ m
    → some (same_guid g) (guids a b) ≡ false → Passed lows highs l h (n + m) g
unfolding front-more
passed-more lows highs ls hs a b l h n m g p e f k j w = record {
  low = front-more lows ls a l n m p.low e k;
  high = front-more highs hs b h n m p.high f j;
  none = rw (guids-append p.low.front a p.high.front b (sym p.low.many ∙ p.high.many), some-append, p.none) w;
}

pub passed-none : (lows highs ls hs : List ℕ) (n : ℕ) (g : Guid) → Passed lows highs ls hs n g → (n ≤ length lows) × (some (same_guid g) (take n (guids lows highs)) ≡ false)
passed-none lows highs ls hs n g p =
    let fl = p.low.front in
    let fh = p.high.front in
    let l = ap length p.low.whole ∙ length-append fl ls in
    let w = ap (λ (xs : List ℕ). guids xs highs) p.low.whole ∙ ap (guids (fl ++ ls)) p.high.whole ∙ guids-append fl ls fh hs (sym p.low.many ∙ p.high.many) in
    let m = p.low.many ∙ sym (length-guids fl fh) in
    let t = ap (take n) w ∙ ap (λ (k : ℕ). take k (guids fl fh ++ guids ls hs)) m ∙ take-append_seam (guids fl fh) (guids ls hs) in
    (omega (arith, p.low.many), rw t p.none)
