-- `Global` as a call passes it for a type parameter, and what the call owes of it.
use Rattle.std.proofs.Common.{[], ◌∷◌, refl}
use Rattle.std_heap.proofs.Global.TheLaws as heap_laws
use Rattle.std_heap.specs.contracts.Global as heap
use denote.Exit.{no}
use denote.Param.{arg, layout}
use denote.Param.Laws.{Laws, arg_laws}
use denote.RattleType.{RattleType}
use mir.Raw.{raw as bare}
use mir.Syntax.{Dict, dnil, impl, tcons, tnil}

abbrev pub row : RattleType
row = arg (bare (layout heap.the_row)) no heap.the_row

abbrev pub laws : Laws row
laws = arg_laws (bare (layout heap.the_row)) no heap.the_row heap_laws.the_row_laws refl

-- it needs no drop
abbrev pub no_drop : Dict
no_drop = impl ("rt_handle::Destruct++none::drop" ∷ []) (tcons (layout row) tnil) dnil
