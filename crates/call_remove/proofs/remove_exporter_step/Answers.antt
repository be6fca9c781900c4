-- `call_remove::remove_exporter_step`: an exporter that is not live is refused; else its objects go, and then its row.
use Rattle.table_view.proofs.Steps.{whole}
use Rattle.call_remove.proofs.Removing.{no-exporter, settling, row-asked, exporter-gone}
use borrow.Author.Rules.{rules}
use Rattle.call_remove.proofs.remove_exporter_step.Goals as goal

pub exporter_row-i-requires : goal.exporter_row-i-requires
exporter_row-i-requires c = search whole

pub exporter_count-requires : goal.exporter_count-requires
exporter_count-requires c = search whole

pub returns-then-exporter_count-i : goal.returns-then-exporter_count-i
returns-then-exporter_count-i c = search no-exporter

pub remove_leaving-requires : goal.remove_leaving-requires
remove_leaving-requires c = search settling

pub remove_exporter-requires : goal.remove_exporter-requires
remove_exporter-requires = (λ c.
    let asked =
    row-asked _ _ c.args.oxid.0 c.requires _ _ c.exporter_count.ensures.0 c.if-exporter_count-i.false _
    c.remove_leaving.ensures in
    (search rules, c.requires.store, asked.0, asked.1))

pub returns : goal.returns
returns c = search exporter-gone
