-- `sections::read_sections`: what has been read after each section (`Reached`).
use mathlib.Core.Path.{ap, ◌∙◌}
use native.Mathlib.Omega.{arith}
use Rattle.snapshot_rows.specs.declared.Section.TheVariants.{Exporters, Objects, Interfaces, Sets}
use Rattle.snapshot_reader.specs.ReadRows.{fits}
use Rattle.snapshot_reader.proofs.sections.Entries.{reached-begun, reached-refused, exporters-reached, objects-reached, interfaces-reached, sets-read}
use Rattle.snapshot_reader.proofs.sections.Entries.{exporters-section, objects-section, interfaces-section}
use Rattle.snapshot_reader.proofs.sections.Entries.{exporters-none, objects-none, interfaces-none, sets-none, exporters-fit, objects-fit, interfaces-fit}
use Rattle.snapshot_reader.proofs.sections.read_sections.Goals as goal

pub read_section-requires : goal.read_section-requires
read_section-requires c =
    let r = reached-begun _ _ _ c.requires.5 c.requires.3 in
    (c.requires.0, c.requires.1, r.inside, c.requires.2, ap (fits Exporters) r.entries ∙ exporters-none _)

pub returns-in_err-objects : goal.returns-in_err-objects
returns-in_err-objects c =
    rw c.from_residual.ensures
    (reached-refused Exporters (reached-begun _ _ _ c.requires.5 c.requires.3) (exporters-section _) (exporters-fit _ c.requires.4) c.in_err-objects.ensures _)

pub read_section-requires-2 : goal.read_section-requires-2
read_section-requires-2 c =
    let r = exporters-reached c.requires.5 c.requires.3 c.in_ok-objects.ensures in
    (omega arith, omega arith, r.inside, c.requires.2, ap (fits Objects) r.entries ∙ objects-none _)

pub returns-in_err-interfaces : goal.returns-in_err-interfaces
returns-in_err-interfaces c =
    let r = exporters-reached c.requires.5 c.requires.3 c.in_ok-objects.ensures in
    rw c.from_residual-in_err-interfaces.ensures
    (reached-refused Objects r (objects-section _) (objects-fit _ c.requires.4) c.in_err-interfaces.ensures _)

pub read_section-requires-3 : goal.read_section-requires-3
read_section-requires-3 c =
    let r = objects-reached c.requires.5 c.requires.3 c.in_ok-objects.ensures c.in_ok-interfaces.ensures in
    (omega arith, omega arith, r.inside, c.requires.2, ap (fits Interfaces) r.entries ∙ interfaces-none _)

pub returns-in_err-sets : goal.returns-in_err-sets
returns-in_err-sets c =
    let r = objects-reached c.requires.5 c.requires.3 c.in_ok-objects.ensures c.in_ok-interfaces.ensures in
    rw c.from_residual-in_err-sets.ensures
    (reached-refused Interfaces r (interfaces-section _) (interfaces-fit _ c.requires.4) c.in_err-sets.ensures _)

pub read_section-requires-4 : goal.read_section-requires-4
read_section-requires-4 c =
    let r = interfaces-reached c.requires.5 c.requires.3 c.in_ok-objects.ensures c.in_ok-interfaces.ensures c.in_ok-sets.ensures in
    (omega arith, omega arith, r.inside, c.requires.2, ap (fits Sets) r.entries ∙ sets-none _)

pub returns : goal.returns
returns c =
    let r = interfaces-reached c.requires.5 c.requires.3 c.in_ok-objects.ensures c.in_ok-interfaces.ensures c.in_ok-sets.ensures in
    sets-read c.read_section-4.result r c.requires.4 c.read_section-4.ensures
