use Rattle.std.proofs.Common.{All, ◌≡◌, ◌-◌, ◌≤◌, ℕ, List, Some, length}
use Rattle.rt_geo.specs.Entries.{HasLayer}
use Rattle.rt_text.specs.Loads.{IsReading, first_number}
use Rattle.rt_text.specs.Tables.{table_of}
use Rattle.rt_text.proofs.TableReads.{ReadUpTo}
use Rattle.rt_text.proofs.tables.read_entries.Given as goal

-- each record before this one gave an entry, but the first where it is a header
abbrev pub invariant-loop-number : goal.invariant-loop-number
invariant-loop-number g l = record {
  reading : IsReading l.records;
  count : length l.entries ≡ l.number - first_number l.fn.header;
  most : length l.entries ≤ l.fn.max;
  layers : All HasLayer l.entries;
  table : (bytes : List ℕ) → g.R.Read.remaining l.fn.reader ≡ Some bytes
      → ReadUpTo g.R.Read.remaining l.records l.entries l.fn.header l.fn.max l.number (table_of bytes l.fn.header l.fn.max);
}
