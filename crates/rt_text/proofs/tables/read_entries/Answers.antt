use Rattle.std.proofs.Common.{arith, length}
use Rattle.std.proofs.lemmas.Result.{err_from_is_err_and}
use Rattle.csv.specs.Records.{fields_of}
use Rattle.rt_text.specs.Loads.{entry_after}
use Rattle.rt_text.proofs.TableLemmas.{count-header, number_now}
use Rattle.rt_text.proofs.TableReads.{is_judged, longer, read-end, read-entry, read-header, read-refused}
use Rattle.rt_text.proofs.tables.read_entries.Goals as goal

pub returns-then-not-branch-clause-end : goal.returns-then-not-branch-clause-end
returns-then-not-branch-clause-end g c bytes h =
    let inv = c.loop-number.invariant in
    let read = rw c.if-not-branch.true at c.in_ok-next_record.ensures.reads in
    read-end c.next_record.new.records (fields_of c.next_record.new.fields) (inv.table bytes h) inv.reading.2 read

pub loop-number-preserved-then-number-eq1 : goal.loop-number-preserved-then-number-eq1
loop-number-preserved-then-number-eq1 g c =
    let inv = c.loop-number.invariant in
    let read = rw c.if-not-branch.false at c.in_ok-next_record.ensures.reads in
    record {
      reading = c.in_ok-next_record.ensures.reading;
      count = count-header c.args.header c.loop-number.number (length c.loop-number.entries) c.if-header.true c.if-number-eq1.true inv.count;
      most = inv.most;
      layers = inv.layers;
      table = λ bytes h. read-header c.next_record.new.records (fields_of c.next_record.new.fields) (inv.table bytes h) inv.reading.2 read c.if-header.true c.if-number-eq1.true;
    }

pub returns-in_err-add_entry-clause-end : goal.returns-in_err-add_entry-clause-end
returns-in_err-add_entry-clause-end g c =
    let inv = c.loop-number.invariant in
    let read = rw c.if-not-branch.false at c.in_ok-next_record.ensures.reads in
    let judged = is_judged c.args.header c.loop-number.number c.else-header.either in
    let p = err_from_is_err_and c.from_residual-in_err-add_entry.result c.from_residual-in_err-add_entry.ensures.1 in
    rw (p.1, p.2, c.in_err-add_entry.ensures.err) (λ bytes h. read-refused c.next_record.new.records (fields_of c.next_record.new.fields)
    c.in_err-add_entry.field-0.0 (inv.table bytes h) inv.reading.2 read judged c.in_err-add_entry.ensures.fault)

pub loop-number-preserved : goal.loop-number-preserved
loop-number-preserved g c =
    let inv = c.loop-number.invariant in
    let so_far = c.loop-number.entries in
    let read = rw c.if-not-branch.false at c.in_ok-next_record.ensures.reads in
    let judged = is_judged c.args.header c.loop-number.number c.else-header.either in
    let fields = fields_of c.next_record.new.fields in
    let added = c.in_ok-add_entry.ensures.added in
    let counted = number_now c.args.header c.loop-number.number (length so_far) c.loop-number.auto.number judged inv.count in
    let one_more = longer (entry_after c.args.max c.loop-number.number so_far fields) so_far c.add_entry.new.entries added in
    record {
      reading = c.in_ok-next_record.ensures.reading;
      count = omega (arith, one_more, counted);
      most = c.in_ok-add_entry.ensures.few;
      layers = c.add_entry.ensures.layers;
      table = λ bytes h. read-entry c.next_record.new.records fields
          c.add_entry.new.entries (inv.table bytes h) inv.reading.2 read c.loop-number.auto.number judged counted added;
    }
