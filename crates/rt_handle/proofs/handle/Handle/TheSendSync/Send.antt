-- What a handle owns names no thread: neither the session nor the right to free its block.
use mir.Raw.{raw}
use base.Fraction.{full_share}
use base.Shift.{Keyless}
use denote.Memory.{lone}
use denote.Param.Send.{IsSend, part_keyless}
use denote.RawPtr.{Ptr, block_ptr, null_ptr}
use Rattle.std.proofs.Crossing.{frees}
use Rattle.std.specs.declared.option.Option.{Option}
use Rattle.std.specs.declared.option.Option.TheVariants.{None, Some}
use Rattle.rt_embed.specs.Sessions.{Contents}
use Rattle.rt_embed.specs.contracts.session.Session as session
use Rattle.rt_embed.proofs.session.Session.TheSendSync.{the_send}
use Rattle.rt_handle.specs.Ownership.{heap, holds}
use Rattle.rt_handle.specs.contracts.handle.Handle.{the_row}

holds_keyless : (at : Ptr) (held : Option Contents) → Keyless (holds at held)
holds_keyless at None = tt
holds_keyless (block_ptr b o) (Some x) = (part_keyless session.the_row the_send full_share x b o, frees.frees heap (raw (lone (session.the_row).mir)) (block_ptr b o))
holds_keyless null_ptr (Some x) = (tt, frees.frees heap (raw (lone (session.the_row).mir)) null_ptr)

pub send : IsSend the_row
send = record { owned = λ h vs. ((λ vss. (tt, (tt, tt))), holds_keyless h.at h.held); leaving = λ k d w. tt }
