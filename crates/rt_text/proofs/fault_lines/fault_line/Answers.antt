use Rattle.std.proofs.Common.{◌∙◌, refl}
use Rattle.rt_text.proofs.fault_lines.fault_line.Goals as goal

pub returns-in-FieldCount : goal.returns-in-FieldCount
returns-in-FieldCount c = rw c.in-FieldCount.is c.numbered_line.ensures

pub returns-in-NotNumber : goal.returns-in-NotNumber
returns-in-NotNumber c = rw c.in-NotNumber.is (c.numbered_line-in-NotNumber.ensures ∙ rw c.from.ensures refl)

pub returns-in-OutOfRange : goal.returns-in-OutOfRange
returns-in-OutOfRange c = rw c.in-OutOfRange.is (c.numbered_line-in-OutOfRange.ensures ∙ rw c.from-in-OutOfRange.ensures refl)

pub returns-in-Repeated : goal.returns-in-Repeated
returns-in-Repeated c = rw c.in-Repeated.is c.record_line-in-Repeated.ensures
