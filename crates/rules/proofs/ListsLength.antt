-- The bytes of the exporters' lists together: of one exporter more, of those that are kept, and laid end to end.
use Prim.Native.Nat.{◌+◌, ◌≤◌}
use mathlib.Core.Path.{◌≡◌, refl}
use mathlib.Core.Bool.{Bool}
use mathlib.Core.List.{List, [], ◌∷◌, ◌++◌, map}
use native.Mathlib.Omega.{arith}
use lib.ListN.{length, length-append}
use Rattle.kinds.proofs.Refusing.{by-test}
use Rattle.bindings.specs.Bindings.{joined}
use Rattle.lists.specs.Lists.{keep}
use Rattle.rules.specs.Entries.{Exporter, lists_length}

-- of one exporter more
pub bytes-snoc : (xs : List Exporter) (x : Exporter) → lists_length (xs ++ (x ∷ [])) ≡ lists_length xs + length x.bindings
unfolding lists_length
bytes-snoc [] x = omega arith
bytes-snoc (y ∷ ys) x = rw (bytes-snoc ys x) (omega arith)

-- of those that are kept
pub bytes-kept : (p : Exporter → Bool) (xs : List Exporter) → lists_length (keep p xs) ≤ lists_length xs
unfolding lists_length keep
bytes-kept p [] = omega arith
bytes-kept p (x ∷ xs) =
    let h : lists_length (keep p xs) ≤ lists_length xs = bytes-kept p xs in
    by-test (λ (l : List Exporter). lists_length l ≤ length x.bindings + lists_length xs) (p x) (x ∷ keep p xs) (keep p xs)
    (λ t. omega arith)
    (λ t. omega arith)

-- laid end to end
pub bytes-joined : (xs : List Exporter) → length (joined (map (λ (x : Exporter). x.bindings) xs)) ≡ lists_length xs
unfolding lists_length joined
bytes-joined [] = refl
bytes-joined (x ∷ xs) = cc (length-append x.bindings (joined (map (λ (y : Exporter). y.bindings) xs)), bytes-joined xs)
