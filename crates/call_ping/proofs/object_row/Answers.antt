-- `call_ping::object_row`: OIDs are distinct, so a row that has the OID is the first that has it.
use Rattle.std.proofs.Common.{ℕ, ◌<◌, eqb, List, map, length, sym, ap, ◌∙◌, arith}
use borrow.Author.Tests.{eqb-true}
use lib.ListN.{length-map}
use Rattle.lists.specs.Lists.{first_index}
use Rattle.lists.proofs.Distinct.{eqb-decides, first-same}
use Rattle.lists.proofs.Lists.{get_d_map}
use Rattle.rules.specs.Entries.{Object}
use Rattle.rules.specs.Rules.{no_object}
use Rattle.rules.proofs.Groups.{fine-distinct}
use Rattle.table_view.specs.View.{objects_of, oids_of}
use Rattle.table_view.proofs.LiveRows.{objects-length}
use Rattle.call_ping.proofs.object_row.Goals as goal

pub returns-then-eq : goal.returns-then-eq
returns-then-eq c s =
    let a = c.args in
    let os : List Object = objects_of a.words.now in
    let f : Object → ℕ = λ (o : Object). o.oid in
    let l = objects-length a.words.now in
    let b : a.hint < length os = omega arith in
    let b₂ : a.hint < length (map f os) = rw (length-map os f) b in
    let x = sym c.oid-there.ensures ∙ sym (eqb-true _ _ (sym c.eq.ensures ∙ c.if-eq.true)) in
    sym (first-same eqb eqb-decides (map f os) 0 a.hint (fine-distinct eqb 0 (oids_of a.words.now) c.requires.1) b₂)
    ∙ ap (λ (n : ℕ). first_index (eqb n) (map f os)) (get_d_map f os no_object 0 a.hint b ∙ x)
