-- Entries of four words one after the other: where a walk over them stands, and what the next one is.
use Prim.Native.Nat.{ℕ, ◌+◌, ◌-◌, ◌/◌, ◌<◌}
use mathlib.Core.Path.{◌≡◌, sym, ap, ◌∙◌}
use mathlib.Core.List.{List, ◌++◌}
use native.Mathlib.Omega.{arith}
use lib.ListN.{length, get_or, drop, length-append, length-drop, get_or-append}
use lib.Seq.{drop-drop, drop-append_seam}
use Rattle.std.proofs.lemmas.List.{get_or-drop}

-- the word at which the words that are left begin, and how many entries they are
abbrev pub at : List ℕ → List ℕ → ℕ
at ws rest = length ws - length rest

abbrev pub left : List ℕ → ℕ
left rest = length rest / 4

pub record Standing (ws rest : List ℕ) (size : ℕ) : Type 0 where
  pub four : size ≡ 4
  pub same : rest ≡ drop (at ws rest) ws

pub standing-first : (ws rest : List ℕ) (size : ℕ) → size ≡ 4 → rest ≡ ws → Standing ws rest size
standing-first ws rest size f e =
    let n = ap length e in
    let z : at ws rest ≡ 0 = omega arith in
    record { four = f; same = rw z e }

-- the entry x is followed by the words r
pub record Next (ws rest x r : List ℕ) (size : ℕ) : Type 0 where
  pub some : 0 < left rest
  pub fewer : left r ≡ left rest - 1
  pub place : at ws r ≡ at ws rest + 4
  pub words : (k : ℕ) → k < 4 → get_or x k 0 ≡ get_or ws (at ws rest + k) 0
  pub standing : Standing ws r size

pub next : (ws rest x r : List ℕ) (size size' : ℕ) → Standing ws rest size → size' ≡ size → rest ≡ x ++ r → length x ≡ size → Next ws rest x r size'
next ws rest x r size size' s e j l =
    let four = s.four in
    let n = ap length j ∙ length-append x r in
    let whole = ap length s.same ∙ length-drop (at ws rest) ws in
    let place : at ws r ≡ at ws rest + length x = omega arith in
    record {
      some = omega arith;
      fewer = omega arith;
      place = omega arith;
      words = λ k h.
          let inner : k < length x = omega arith in
          sym (get_or-append x r 0 k inner) ∙ ap (λ (y : List ℕ). get_or y k 0) (sym j ∙ s.same) ∙ get_or-drop (at ws rest) ws k 0;
      standing = record {
        four = e ∙ four;
        same = sym (drop-append_seam x r) ∙ ap (drop (length x)) (sym j ∙ s.same) ∙ drop-drop (length x) (at ws rest) ws ∙ ap (λ (i : ℕ). drop i ws) (sym place);
      };
    }

-- at the first entry, and after the last one
pub at-first : (ws rest : List ℕ) → rest ≡ ws → at ws rest ≡ 0
at-first ws rest e = let n = ap length e in omega arith

pub left-first : (ws rest : List ℕ) → rest ≡ ws → left rest ≡ length ws / 4
left-first ws rest e = ap left e

pub left_none : (ws rest : List ℕ) (size : ℕ) → Standing ws rest size → length rest < size → left rest ≡ 0
left_none ws rest size s h = let four = s.four in omega arith
