use native.Mathlib.Omega.{arith}
use mathlib.Core.Path.{◌∙◌, sym, ap}
use lib.ListN.{length}
use Rattle.kinds.specs.Bytes.{bar_end}
use Rattle.kinds.proofs.KindLaws.{table-short, table-yes, table-no}
use Rattle.kinds.proofs.table.Goals as goal
use Rattle.kinds.proofs.table.Goals.{else-row-ge2-via-then-row-ge2+else-bar_end, else-row-ge2-via-else-row-ge2}

pub returns-then-bar_end : goal.returns-then-bar_end
returns-then-bar_end c = c.new.ensures ∙ table-yes _ _ (omega (arith, ap length c.trim_end-row.ensures)) (sym (ap bar_end c.trim_end-row.ensures) ∙ sym c.bar_end.ensures ∙ c.if-bar_end.true)

pub returns : goal.returns
returns c =
    c.paragraph.ensures ∙ elim c.else-row-ge2.branch [
      | else-row-ge2-via-then-row-ge2+else-bar_end w ↦
          table-no _ _ (omega (arith, w.if-row-ge2.true, ap length c.trim_end-row.ensures)) (sym (ap bar_end c.trim_end-row.ensures) ∙ sym w.bar_end.ensures ∙ w.if-bar_end.false)
      | else-row-ge2-via-else-row-ge2 w ↦ table-short _ _ (omega (arith, w.if-row-ge2.false, ap length c.trim_end-row.ensures))
    ]
