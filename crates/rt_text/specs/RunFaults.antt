-- What a run reports of a fault.
use Rattle.std.specs.Prelude.{ℕ, List, codes}
use Rattle.rt_text.specs.FaultLines.{fault_line}
use Rattle.rt_text.specs.declared.tables.TableFault.{TableFault}
use Rattle.rt_text.specs.declared.tables.TableFault.TheVariants as load
use Rattle.rt_text.specs.declared.run_faults.RunFault.{RunFault}
use Rattle.rt_text.specs.declared.run_faults.RunFault.TheVariants.{Table, Read, Write, Memory}

-- what a run reports of a fault of the load: out of memory is the run's own
abbrev pub run_fault : TableFault → RunFault
run_fault load.Memory = Memory
run_fault other = Table other

-- the status of a run that ends with a fault
abbrev pub status_of : RunFault → ℕ
status_of (Table cause) = 3
status_of Read = 4
status_of Write = 5
status_of Memory = 6

-- the line that reports a fault
abbrev pub run_fault_line : RunFault → List ℕ
run_fault_line (Table cause) = fault_line cause
run_fault_line Read = codes "rtfilter: cannot read queries\n"
run_fault_line Write = codes "rtfilter: cannot write answers\n"
run_fault_line Memory = codes "rtfilter: out of memory\n"
