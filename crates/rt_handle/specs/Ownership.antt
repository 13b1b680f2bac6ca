-- What a handle owns.
use Rattle.std.specs.Prelude.{Option, Some, None}
use base.Fml.{Fml, feq}
use denote.RattleType.{RattleType}
use denote.RawPtr.{Ptr, null_ptr}
use Rattle.std_alloc.specs.Box.Ownership.{box_owns}
use Rattle.std_heap.specs.contracts.GlobalAllocator.TheImpl.{ghosts}
use Rattle.std_heap.specs.declared.Global.{Global}
use Rattle.rt_embed.specs.Sessions.{Contents}
use Rattle.rt_embed.specs.contracts.session.Session.{the_row}

-- an allocator of the heap: each has the same value, and frees what another gave
abbrev pub heap : Global
heap = record { memory = record { seal = record {} } }

-- a value of a type lies at the pointer, in a block of the heap that its owner may free
abbrev pub box_at : (type : RattleType) → Ptr → type.Denot → Fml
box_at = box_owns (ghosts.dealloc_token heap)

-- the box of the session that is held; where none is, the pointer is null
abbrev pub holds : Ptr → Option Contents → Fml
holds at None = feq Ptr at null_ptr
holds at (Some session) = box_at the_row at session
