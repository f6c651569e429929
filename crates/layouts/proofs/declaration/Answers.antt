-- A code that declares has a row of the table, and the table's rule holds of it.
use mathlib.Core.Path.{sym, ◌∙◌}
use Rattle.layouts.proofs.Table.{rule, row_within, declares_row}
use Rattle.layouts.proofs.declaration.Goals as goal

pub returns : goal.returns
returns c =
    let e = sym c.in_ok-row.was ∙ c.row_of.ensures in
    declares_row c.args.code _ e _ (rule _ (row_within c.args.code _ e))
