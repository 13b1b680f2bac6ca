use Rattle.std.proofs.Common.{arith, codes, refl}
use Rattle.clap.specs.Words.{found_of, rows_of}
use Rattle.rt_command.proofs.OptionNumbers.{number_read, number_unwrapped}
use Rattle.rt_command.proofs.invocation.max_entries.Goals as goal

pub unwrap-requires : goal.unwrap-requires
unwrap-requires c =
    let read = number_read 32 1 16777216 (codes "max-entries") (found_of c.args.matches.now) c.get_one.result c.requires c.get_one.ensures.value (omega arith) (omega arith) in
    rw read.1 refl

pub returns : goal.returns
returns c =
    let read = number_read 32 1 16777216 (codes "max-entries") (found_of c.args.matches.now) c.get_one.result c.requires c.get_one.ensures.value (omega arith) (omega arith) in
    let number = number_unwrapped 1 16777216 (codes "max-entries") (rows_of (found_of c.args.matches.now)) c.get_one.result c.unwrap.result read c.unwrap.ensures in
    record { value = number.0; least = number.1; most = number.2 }
