use Rattle.std.proofs.Common.{arith, codes, refl}
use Rattle.clap.specs.Words.{found_of, rows_of}
use Rattle.rt_command.proofs.OptionNumbers.{number_read, number_unwrapped}
use Rattle.rt_command.proofs.invocation.fanout.Goals as goal

pub unwrap-requires : goal.unwrap-requires
unwrap-requires c =
    let read = number_read 8 2 64 (codes "fanout") (found_of c.args.matches.now) c.get_one.result c.requires c.get_one.ensures.value (omega arith) (omega arith) in
    rw read.1 refl

pub returns : goal.returns
returns c =
    let read = number_read 8 2 64 (codes "fanout") (found_of c.args.matches.now) c.get_one.result c.requires c.get_one.ensures.value (omega arith) (omega arith) in
    let number = number_unwrapped 2 64 (codes "fanout") (rows_of (found_of c.args.matches.now)) c.get_one.result c.unwrap.result read c.unwrap.ensures in
    record { value = number.0; least = number.1; most = number.2 }
