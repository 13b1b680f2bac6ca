-- `of_raw_box` moves the pointer, and what lies there.
use Rattle.std.proofs.Common.{◌≡◌, List, [], ◌∷◌, ◌++◌, refl, sym, subst, Some}
use mir.Val.{Val}
use base.Logic.{SProp, ent, emp, id⊢}
use base.Fml.{ftrue, fsep}
use prog.Wp.{WpFn}
use types.Kit.{‵, raw, ◌⊛◌, ◌$◌, ◌∵◌, !, qed, by, move, keep, drop, split, fsplit, fjoin, suffices, use0}
use types.Run.{stop, fld, of_opd, no_more, and_then, returns, enter}
use types.ByLocal.{alloc_all, pass_all, free_all, look_at, get, get_in, sets}
use types.Part.{agg, sub, whole}
use contract.Monad.{fact, fact_i}
use contract.Running.{tables}
use denote.Exit.{rest, yes}
use denote.RattleType.{RattleType}
use denote.Signature.{plain}
use denote.Steps.{nothing}
use denote.Triple.Walked.{Stays, stay_dropped, walk_of}
use Rattle.core.proofs.alloc.Calls.{Goes-blank}
use Rattle.std.proofs.raw_atomic.Walks.{proved_at, leaves}
use Rattle.rt_embed.specs.contracts.session.Session as session
use Rattle.rt_embed.proofs.session.Session.TheLaws as session_laws
use Rattle.rt_handle.specs.contracts.raw_box.RawBox as raw_box
use Rattle.rt_handle.proofs.raw_box.RawBox.TheLaws.{lowers}
use Rattle.rt_handle.proofs.Pointers.{pointer_good, word, word_good, word_in}
use Rattle.rt_handle.specs.contracts.handle.Handle.of_raw_box.{ended, clauses}
use Rattle.rt_handle.specs.contracts.handle.Handle.of_raw_box.Key.{name as #self}
use Rattle.rt_handle.proofs.handle.Handle.of_raw_box.Statement.{statement}
use Rattle.rt_handle.proofs.handle.Handle.of_raw_box.Code as code

pub of_raw_box_spec : {M : Type 1} → statement M
of_raw_box_spec 𝓤 𝓛 𝓜 𝓡 wired =
    let H = 𝓛.H in let 𝓣 = tables 𝓤 H 𝓜 𝓡 𝓡.env in
    let En = ended in let c = clauses 𝓛 𝓜.mem 𝓡.returns in let fn = code.function in
    let B : RattleType = raw_box.the_row session.the_row in
    let hs : Stays En.signature.params En.kept = (stay_dropped (plain (λ _. B)) yes, tt) in
    proved_at 𝓛 En hs c 𝓜 𝓡 (Goes-blank 𝓛 0 (plain (λ _. B)) yes (λ κs x f. tt), tt)
    #self fn (code.unfolded 𝓤 H 𝓜 𝓡 wired) (λ z are.
    let v = z.0.3.0 in let Post : Val → SProp 𝓤 = (walk_of 𝓛 En hs c).post z in
    let Run : List Val → SProp 𝓤 = λ ws. WpFn 𝓤 H 𝓣.C 𝓣.Λ fn ws Post in
    let w : Val = word v.at in
    let is : z.0.4.0 ≡ w ∷ [] = (lowers session.the_row session_laws.the_row_laws).val_is v z.0.4.0 are.0 in
    let Same = Some v.value ≡ Some v.value in
    qed 𝓛 ((‵ ftrue ⊛ ‵ (fsep (B.own_val v z.0.4.0) ftrue)) ∷ ‵ ftrue ∷ []) ∵
    split ! $ move ! (1 ∷ []) $ fsplit ! $ fsplit ! $ drop ! $
    -- [the memory at the pointer; ..]
    suffices ! (Run (w ∷ []))
    (subst (λ (us : List Val). ent 𝓤 (Run (w ∷ [])) (Run us)) (sym (λ i. is i ++ [])) (id⊢ 𝓤 (Run (w ∷ [])))) $
    enter ! 𝓣.C 𝓣.Λ fn (w ∷ []) Post $ alloc_all ! (λ l. pass_all ! refl (word_good v.at, tt) $
    sets ! (of_opd ! (get_in ! (fld ! refl (stop !)) (sub ! 0 refl (whole !)))) refl (pointer_good v.at) $
    sets ! (of_opd ! (get ! refl)) refl (pointer_good v.at) $
    sets ! (agg ! (and_then ! (get ! refl) (no_more !))) refl (word_good v.at) $
    word_in ! v.at $ fjoin ! $ use0 𝓛 (raw (fact 𝓤 Same)) (fact_i 𝓤 Same (emp 𝓤) refl) $ nothing ! $ nothing ! $ fjoin ! $
    returns ! (look_at ! 0 refl) $ free_all ! refl $ keep ! (4 ∷ 0 ∷ 2 ∷ 1 ∷ []) $
    by ! (leaves 𝓛 En hs c z w (record { at = v.at; held = Some v.value }) (rest (B.exit yes) v, tt) (tt, tt))))
