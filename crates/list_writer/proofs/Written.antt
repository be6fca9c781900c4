-- What is written is accepted, and is the list of the bindings whose words were given.
use Prim.Native.Nat.{ℕ, suc, zero, ◌+◌, ◌<◌, ◌≤◌}
use mathlib.Core.Path.{◌≡◌, refl, sym, ap, ◌∙◌}
use mathlib.Core.Bool.{true}
use mathlib.Core.List.{List, [], ◌∷◌}
use native.Mathlib.Omega.{arith}
use lib.ListN.{length, take}
use lib.Seq.{take-append_seam, take_at}
use Rattle.bindings.specs.Bindings.{list_answer}
use Rattle.bindings.specs.Layout.{Binding, part_layout}
use Rattle.bindings.specs.ListBytes.{Words16, list_bytes, Listable}
use Rattle.bindings.specs.declared.Part.{Part}
use Rattle.bindings.specs.declared.Part.TheVariants.{Strings, Security}
use Rattle.bindings.proofs.Grammar.{layout-part, part-layout}
use Rattle.bindings.proofs.ListBytes.{parts-accepted, same-fit}
use Rattle.list_writer.specs.Writing.{ended, fits, made_list, words_of, OfBindings, ListsWritten}
use Rattle.list_writer.proofs.Rows.{length-ended}
use Rattle.list_writer.proofs.Making.{fitting, first-kept}

-- the zero word has 16 bits too
ended-fit : (ws : List ℕ) → Words16 ws → Words16 (ended ws)
ended-fit [] h zero = omega arith
ended-fit [] h (suc i) = omega arith
ended-fit (w ∷ ws) h zero = h 0
ended-fit (w ∷ ws) h (suc i) = ended-fit ws (λ j. h (suc j)) i

-- the words of bindings with the zero word are the layout of a part
as-layout : (p : Part) (bs : List Binding) → ended (words_of p bs) ≡ part_layout p bs
unfolding part_layout
as-layout p bs = refl

-- words are what stands before the end
same-front : (a b : List ℕ) → ended a ≡ ended b → a ≡ b
same-front a b e =
    let n : length a ≡ length b = let l = ap length e in omega (arith, length-ended a, length-ended b) in
    sym (take-append_seam a (0 ∷ [])) ∙ ap (take (length a)) e ∙ take_at b (0 ∷ []) (length a) (sym n)

-- words whose part is a layout are those of its bindings
without_end : (p : Part) (ws : List ℕ) (bs : List Binding) → ended ws ≡ part_layout p bs → ws ≡ words_of p bs
without_end p ws bs e = same-front ws (words_of p bs) (e ∙ sym (as-layout p bs))

module _ (a b : List ℕ) (fa : Words16 a) (fb : Words16 b) (f : fits a b ≡ true) where
  few : length (ended a) + length (ended b) < 65536
  few = let h = (fitting a b f).few in omega (arith, length-ended a, length-ended b)

  written-accepted : list_answer (made_list a b) ≡ 0
  unfolding made_list
  written-accepted = parts-accepted (ended a) (ended b) (ended-fit a fa) (ended-fit b fb) few (fitting a b f).strings (fitting a b f).security

  written-bindings : OfBindings a b
  written-bindings =
      let x = part-layout Strings (ended a) (fitting a b f).strings in
      let y = part-layout Security (ended b) (fitting a b f).security in
      record {
        strings = x.bindings;
        security = y.bindings;
        listable =
            record {
              proper_strings = x.proper;
              proper_security = y.proper;
              string_words = same-fit (ended a) (part_layout Strings x.bindings) x.same (ended-fit a fa);
              security_words = same-fit (ended b) (part_layout Security y.bindings) y.same (ended-fit b fb);
              count = let n = ap length x.same in let k = ap length y.same in omega (arith, few);
            };
        string_words = without_end Strings a x.bindings x.same;
        security_words = without_end Security b y.bindings y.same;
      }

module _ (strings security : List Binding) where
  bindings-fit : Listable strings security → fits (words_of Strings strings) (words_of Security security) ≡ true
  bindings-fit l =
      let a = words_of Strings strings in
      let b = words_of Security security in
      let n = ap length (as-layout Strings strings) in
      let k = ap length (as-layout Security security) in
      let c = l.count in
      let h : length a + length b ≤ 65533 = omega (arith, length-ended a, length-ended b) in
      first-kept a b h (rw (as-layout Strings strings) (layout-part Strings strings l.proper_strings))
      ∙ (rw (as-layout Security security) (layout-part Security security l.proper_security))

  same-list : made_list (words_of Strings strings) (words_of Security security) ≡ list_bytes strings security
  unfolding made_list list_bytes
  same-list = rw (as-layout Strings strings, as-layout Security security)

pub lists-written : ListsWritten
lists-written = record { accepted = written-accepted; bindings = written-bindings; fitting = bindings-fit; same = same-list }
