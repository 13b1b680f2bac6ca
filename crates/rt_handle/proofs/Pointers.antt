-- A struct whose one field is a pointer, as a machine value.
use Rattle.std.proofs.Common.{List, [], ◌∷◌, refl, lit<}
use Rattle.std_alloc.proofs.ResultValues.{and_tt}
use denote.Builtin.{RawPtr}
use denote.RattleType.{Valss}
use denote.RawPtr.{Ptr, block_ptr, null_ptr, ptr_val}
use denote.Steps.{nothing}
use denote.Struct.Struct.{Shape, Struct, within}
use lib.Dec.{T}
use mathlib.Core.Bool.{true, ◌&&◌}
use mir.Syntax.{ty_ptr}
use mir.Val.{Val, WT, has_ty, vcons, vnil, vstruct}
use seplogic.Ra.Ura.{Ura}
use types.Kit.{Goal, Item, Step, step, ‵, ◌$◌, feq_i, fjoin, fpack}
use types.Logic.{Logic}

-- its machine value
abbrev pub word : Ptr → Val
word p = vstruct (vcons (ptr_val p) vnil)

-- a pointer has its type, and so has the struct
pub pointer_good : (p : Ptr) → T (has_ty ty_ptr (ptr_val p)) × WT (ptr_val p)
pointer_good (block_ptr b o) = (tt, tt)
pointer_good null_ptr = (tt, record { fits = lit< tt })

pub word_good : (p : Ptr) → T (has_ty ty_ptr (ptr_val p) && true) × WT (word p)
word_good p = (and_tt (has_ty ty_ptr (ptr_val p)) (pointer_good p).0, ((pointer_good p).1, tt))

abbrev shape : Shape
shape = record { name = []; args = []; types = []; fields = RawPtr ∷ [] }

-- its field owns nothing
module _ {M : Type 1} {𝓤 : Ura M} {𝓛 : Logic 𝓤} {K : Type 0} {Γ : List (Item 𝓤)} {G : Goal 𝓤 𝓛.H} where
  pub word_in : K → (p : Ptr) → Step K 𝓛 (‵ ((Struct shape).own_val (p, tt) (word p ∷ [])) ∷ Γ) G Γ G
  word_in t p = step (λ s.
      nothing t $ feq_i t (List Val) (ptr_val p ∷ []) (ptr_val p ∷ []) refl $ fjoin t $
      feq_i t (List Val) (word p ∷ []) (word p ∷ []) refl $ fjoin t $
      fpack t (Valss (RawPtr ∷ [])) (within shape (p, tt) (word p ∷ [])) (ptr_val p ∷ [], tt) $ s)
