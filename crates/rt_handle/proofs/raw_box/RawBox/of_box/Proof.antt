-- `of_box` calls `into_raw`, and keeps the pointer.
use Rattle.std.proofs.Common.{◌≡◌, List, [], ◌∷◌, ◌++◌, refl, sym, ap, subst}
use mir.Syntax.{a_type, dcons, dnil}
use mir.Val.{Val}
use mir.MapTy.{inst_fn}
use base.Logic.{SProp, ent, emp, id⊢}
use base.Fml.{ftrue, flft, fsep}
use base.Fraction.{full_share}
use prog.Wp.{WpFn}
use types.Kit.{‵, raw, ◌⊛◌, some, later, ◌$◌, ◌∵◌, !, qed, by, move, keep, drop, split, join, fjoin, pick, suffices, use0, use1, await, rewrite, feq_l}
use types.Run.{of_opd, no_more, and_then, returns, enter}
use types.ByLocal.{alloc_all, pass_all, free_all, look_at, get, sets, lands_as}
use types.Part.{agg}
use contract.BorrowLft.{◌⊑◌, ⊑_refl}
use contract.Lifetimes.{Lfts}
use contract.Monad.{fact, fact_i}
use contract.Running.{tables}
use denote.Builtin.{RawPtr}
use denote.Exit.{no, rest}
use denote.Param.{bounded, layout, param}
use denote.Param.Laws.{param_laws}
use denote.RattleType.{RattleType}
use denote.RawPtr.{Ptr}
use denote.Signature.{plain}
use denote.Steps.{nothing, only}
use denote.Triple.Clauses.{Lasts, lasts}
use denote.Triple.Spec.{triple_of}
use denote.Triple.Call.{calls_at}
use denote.Triple.Walked.{Stays, stay_dropped, walk_of}
use Rattle.core.proofs.alloc.Calls.{Goes-blank}
use Rattle.core.proofs.atomic.Steps.{fm}
use Rattle.core.proofs.cell.Inside.{one}
use Rattle.std.proofs.raw_atomic.Walks.{proved_at, leaves}
use Rattle.std_alloc.specs.contracts.boxed.Box as box
use Rattle.std_alloc.proofs.boxed.Box.TheLaws as box_laws
use Rattle.std_alloc.specs.contracts.boxed.Box.into_raw as callee
use Rattle.std_alloc.proofs.boxed.Box.into_raw.Met.{met}
use Rattle.std_heap.specs.contracts.Global as heap
use Rattle.std_heap.proofs.Global.TheLaws as heap_laws
use Rattle.std_heap.specs.contracts.GlobalAllocator.TheImpl.{ghosts, dict}
use Rattle.std_heap.proofs.GlobalAllocator.TheImpl.Met.{passed}
use Rattle.rt_handle.specs.Ownership.{box_at}
use Rattle.rt_handle.proofs.Destruct++none.drop.Code.{glues}
use Rattle.rt_handle.proofs.HeapRow as global
use Rattle.rt_handle.proofs.Pointers.{pointer_good, word, word_good, word_in}
use Rattle.rt_handle.specs.contracts.raw_box.RawBox.of_box.{ended, clauses}
use Rattle.rt_handle.specs.contracts.raw_box.RawBox.of_box.Key.{name as #self}
use Rattle.rt_handle.proofs.raw_box.RawBox.of_box.Statement.{statement}
use Rattle.rt_handle.proofs.raw_box.RawBox.of_box.Code as code

pub of_box_spec : {M : Type 1} → statement M
of_box_spec {M} 𝓤 𝓛 𝓜 𝓡 wired T L drops glue =
    let H = 𝓛.H in let 𝓣 = tables 𝓤 H 𝓜 𝓡 𝓡.env in
    let En = ended T drops in let c = clauses T drops 𝓛 𝓜.mem 𝓡.returns in
    let given = bounded (a_type ∷ []) (T, tt) (dcons drops dnil) in let fn = inst_fn given code.function in
    let R : RattleType = param 0 T in let B : RattleType = box.the_row R heap.the_row ghosts in
    let LB = box_laws.the_row_laws R heap.the_row ghosts (param_laws 0 T L) heap_laws.the_row_laws in
    let hs : Stays En.signature.params En.kept = (stay_dropped (plain (λ _. B)) no, tt) in
    proved_at 𝓛 En hs c 𝓜 𝓡 (Goes-blank 𝓛 1 (plain (λ _. B)) no (λ κs x f. tt), tt)
    (#self given) fn (code.unfolded 𝓤 H 𝓜 𝓡 wired (T, tt) drops) (λ z are.
    let κ = z.0.0.0 in let q = z.0.1.0 in let v = z.0.3.0 in let Post : Val → SProp 𝓤 = (walk_of 𝓛 En hs c).post z in
    let Run : List Val → SProp 𝓤 = λ ws. WpFn 𝓤 H 𝓣.C 𝓣.Λ fn ws Post in
    let w = one (layout B) z.0.4.0 ((LB.lawful 𝓛).typed v z.0.4.0 are.0) in
    -- the call
    let k = triple_of 𝓛 (callee.signature T global.row ghosts dict global.no_drop drops)
    (callee.spec T global.row ghosts dict global.no_drop drops 𝓛 𝓜.mem 𝓡.returns) in
    let κs : Lfts 2 = (κ, ([], tt)) in
    let y : k.Ghost = ((κs, (q, (full_share, tt)), tt, (v, tt), (w.0 ∷ [], tt)), tt) in
    let End = callee.ended T global.row ghosts dict global.no_drop drops in
    let toks = ‵ (flft κ q) ⊛ ‵ (flft [] full_share) ⊛ ‵ ftrue in
    let calls = met 𝓤 𝓛 𝓜 𝓡 (code.calls-std_alloc::boxed::Box::into_raw 𝓡.env wired)
    T global.row L global.laws ghosts dict global.no_drop drops
    (passed 𝓡.env (code.calls-std_heap::GlobalAllocator::allocate 𝓡.env wired)
    (code.calls-std_heap::GlobalAllocator::deallocate 𝓡.env wired)
    (code.calls-std_heap::GlobalAllocator::grow 𝓡.env wired)
    (code.calls-std_heap::GlobalAllocator::shrink 𝓡.env wired) M 𝓤 𝓛 𝓜 𝓡)
    (glues 𝓡.env (code.calls-rt_handle::Destruct++none::drop 𝓡.env wired) global.row global.laws M 𝓤 𝓛 𝓜 𝓡) glue in
    qed 𝓛 (((‵ (flft κ q) ⊛ ‵ ftrue) ⊛ ‵ (fsep (B.own_val v z.0.4.0) ftrue)) ∷ (raw (fact 𝓤 (κ ⊑ T.lives)) ⊛ ‵ ftrue) ∷ []) ∵
    split ! $ split ! $ move ! (2 ∷ []) $ rewrite ! 0 (λ (us : List Val). ‵ (fsep (B.own_val v us) ftrue)) w.1 refl $
    -- [the box; the token; nothing; the lifetime's fact]
    move ! (2 ∷ []) $ use0 𝓛 (‵ (flft [] full_share)) (𝓛.lfts.lft-nil full_share) $ join ! $
    move ! (2 ∷ 0 ∷ []) $ join ! $ join ! $ move ! (1 ∷ []) $ split ! $ move ! (1 ∷ []) $
    use0 𝓛 (raw (fact 𝓤 ([] ⊑ []))) (fact_i 𝓤 ([] ⊑ []) (emp 𝓤) (⊑_refl [])) $ join ! $
    move ! (1 ∷ 0 ∷ []) $ join ! $ move ! (1 ∷ 0 ∷ []) $ join ! $ use1 𝓛 (raw (k.pre y)) (id⊢ 𝓤 _) $
    suffices ! (Run (w.0 ∷ []))
    (subst (λ (us : List Val). ent 𝓤 (Run (w.0 ∷ [])) (Run us)) (sym (λ i. w.1 i ++ [])) (id⊢ 𝓤 (Run (w.0 ∷ [])))) $
    enter ! 𝓣.C 𝓣.Λ fn (w.0 ∷ []) Post $ alloc_all ! (λ l. pass_all ! refl (w.2, tt) $
    sets ! (of_opd ! (get ! refl)) refl w.2 $
    calls_at ! (fm 𝓛 𝓜 𝓡) k calls y (and_then ! (get ! refl) (no_more !)) (λ u.
    use1 𝓛 (later (some (λ (r : Ptr). (toks ⊛ ‵ (RawPtr.own_val r (u ∷ [])))
    ⊛ some (λ (ls : Lasts End κs y.0.3). ‵ (lasts End κs y.0.3 ls) ⊛ ‵ (box_at R r v.value))))) (id⊢ 𝓤 (k.post y u)) $
    await ! tt $ pick ! (λ r. split ! $ move ! (1 ∷ []) $ pick ! (λ _. split ! $ drop ! $
    -- [the memory at the pointer; the tokens with the pointer]
    move ! (1 ∷ []) $ split ! $ move ! (1 ∷ []) $ feq_l ! (λ is. lands_as ! (ap only is) refl (pointer_good r) $
    sets ! (agg ! (and_then ! (get ! refl) (no_more !))) refl (word_good r) $
    -- [the tokens; the memory]
    move ! (1 ∷ []) $ word_in ! r $ fjoin ! $
    use0 𝓛 (raw (fact 𝓤 (v.value ≡ v.value))) (fact_i 𝓤 (v.value ≡ v.value) (emp 𝓤) refl) $
    nothing ! $ nothing ! $ fjoin ! $ returns ! (look_at ! 0 refl) $ free_all ! refl $
    -- [nothing of the parameter; the clause; the result; the tokens]
    move ! (3 ∷ []) $ split ! $ move ! (1 ∷ []) $ split ! $ drop ! $ move ! (1 ∷ 0 ∷ []) $ join ! $ keep ! (0 ∷ 1 ∷ 3 ∷ 2 ∷ []) $
    by ! (leaves 𝓛 En hs c z (word r) (record { at = r; value = v.value }) (rest (B.exit no) v, tt) (tt, tt))))))))
