-- `into_box` calls `from_raw` with the pointer that is held.
use Rattle.std.proofs.Common.{◌≡◌, ◌∙◌, List, [], ◌∷◌, ◌++◌, refl, sym, ap, subst, IsSome, None, Some}
use mir.Raw.{raw as bare}
use mir.Val.{Val}
use base.Logic.{SProp, ent, emp, id⊢}
use base.Fml.{ftrue, flft, fsep}
use base.Fraction.{full_share}
use lib.Dec.{T}
use prog.Wp.{WpFn}
use types.Kit.{‵, raw, ◌⊛◌, some, later, at_ret, ◌$◌, ◌∵◌, !, qed, by, move, keep, drop, split, split3, join, fsplit, fjoin, pick, suffices, use0, use1, await, rewrite, feq_i}
use types.Run.{stop, fld, of_opd, no_more, and_then, first, blocks, exec, returns, enter}
use types.ByLocal.{alloc_all, pass_all, free_all, look_at, get, get_in, sets, lands_last, env}
use types.Part.{sub, whole}
use contract.BorrowLft.{◌⊑◌, ⊑_refl}
use contract.Lifetimes.{Lfts}
use contract.Monad.{fact, fact_i}
use contract.Running.{tables}
use denote.Exit.{no, rest, yes}
use denote.Laws.{Is, shows}
use denote.Param.{arg, layout}
use denote.Param.Laws.{arg_laws}
use denote.RattleType.{RattleType}
use denote.RawPtr.{ptr_val}
use denote.Signature.{plain}
use denote.Steps.{nothing, heard, peeks}
use denote.Triple.Clauses.{Lasts, lasts}
use denote.Triple.Spec.{triple_of}
use denote.Triple.Call.{calls_at_last}
use denote.Triple.Walked.{Stays, stay_dropped, walk_of, Goes-dropped}
use Rattle.core.proofs.alloc.Calls.{Goes-blank}
use Rattle.core.proofs.alloc.Shapes.{after}
use Rattle.core.proofs.atomic.Steps.{fm}
use Rattle.core.proofs.cell.Inside.{one}
use Rattle.std.proofs.raw_atomic.Walks.{proved_at, leaves}
use Rattle.std.specs.declared.option.Option.{Option}
use Rattle.std_alloc.specs.contracts.boxed.Box as box
use Rattle.std_alloc.proofs.boxed.Box.TheLaws as box_laws
use Rattle.std_alloc.specs.contracts.boxed.Box.from_raw as callee
use Rattle.std_alloc.proofs.boxed.Box.from_raw.Met.{met}
use Rattle.std_heap.specs.contracts.Global as heap
use Rattle.std_heap.proofs.Global.TheLaws as heap_laws
use Rattle.std_heap.specs.contracts.GlobalAllocator.TheImpl.{ghosts, dict}
use Rattle.std_heap.proofs.GlobalAllocator.TheImpl.Met.{passed}
use Rattle.rt_embed.specs.Sessions.{Contents}
use Rattle.rt_embed.specs.contracts.session.Session as session
use Rattle.rt_embed.proofs.session.Session.TheLaws as session_laws
use Rattle.rt_handle.specs.Ownership.{holds}
use Rattle.rt_handle.specs.contracts.handle.Handle as handle
use Rattle.rt_handle.proofs.handle.Handle.TheLaws.{lowers}
use Rattle.rt_handle.proofs.Destruct++none.drop.Code.{glues}
use Rattle.rt_handle.proofs.HeapRow as global
use Rattle.rt_handle.proofs.Pointers.{pointer_good, word, word_good}
use Rattle.rt_handle.specs.contracts.handle.Handle.into_box.{ended, clauses}
use Rattle.rt_handle.specs.contracts.handle.Handle.into_box.Key.{name as #self}
use Rattle.rt_handle.proofs.handle.Handle.into_box.Statement.{statement}
use Rattle.rt_handle.proofs.handle.Handle.into_box.Code as code

-- what is held
found : (held : Option Contents) → IsSome held → (x : Contents) × (held ≡ Some x)
found None t = absurd (subst T (sym t) tt)
found (Some x) t = (x, refl)

pub into_box_spec : {M : Type 1} → statement M
into_box_spec {M} 𝓤 𝓛 𝓜 𝓡 wired =
    let H = 𝓛.H in let 𝓣 = tables 𝓤 H 𝓜 𝓡 𝓡.env in
    let En = ended in let c = clauses 𝓛 𝓜.mem 𝓡.returns in let fn = code.function in
    let R : RattleType = session.the_row in let LR = session_laws.the_row_laws in
    let G : RattleType = heap.the_row in let LG = heap_laws.the_row_laws in
    let B : RattleType = box.the_row R G ghosts in let LB = box_laws.the_row_laws R G ghosts LR LG in
    let Hr : RattleType = handle.the_row in
    let hs : Stays En.signature.params En.kept = (stay_dropped (plain (λ _. Hr)) yes, (stay_dropped (plain (λ _. G)) yes, tt)) in
    proved_at 𝓛 En hs c 𝓜 𝓡
    (Goes-blank 𝓛 0 (plain (λ _. Hr)) yes (λ κs x f. tt), (Goes-dropped 𝓛 0 (plain (λ _. G)) yes (λ κs x f. refl), tt))
    #self fn (code.unfolded 𝓤 H 𝓜 𝓡 wired) (λ z are.
    let v = z.0.3.0 in let a = z.0.3.1.0 in let Post : Val → SProp 𝓤 = (walk_of 𝓛 En hs c).post z in
    let Run : List Val → SProp 𝓤 = λ ws. WpFn 𝓤 H 𝓣.C 𝓣.Λ fn ws Post in
    let w : Val = word v.at in let is : z.0.4.0 ≡ w ∷ [] = lowers.val_is v z.0.4.0 are.0 in
    let h = one (layout G) z.0.4.1.0 ((LG.lawful 𝓛).typed a z.0.4.1.0 are.1.0) in
    -- the call, with the session's type as it is passed
    let T : RattleType = arg (bare (layout R)) no R in let LT = arg_laws (bare (layout R)) no R LR refl in
    let k = triple_of 𝓛 (callee.signature T global.row ghosts dict global.no_drop)
    (callee.spec T global.row ghosts dict global.no_drop 𝓛 𝓜.mem 𝓡.returns) in
    let κs : Lfts 2 = ([], ([], tt)) in let End = callee.ended T global.row ghosts dict global.no_drop in
    let toks = ‵ (flft [] full_share) ⊛ ‵ (flft [] full_share) ⊛ ‵ ftrue in
    let calls = met 𝓤 𝓛 𝓜 𝓡 (code.calls-std_alloc::boxed::Box::from_raw 𝓡.env wired)
    T global.row LT global.laws ghosts dict global.no_drop
    (passed 𝓡.env (code.calls-std_heap::GlobalAllocator::allocate 𝓡.env wired)
    (code.calls-std_heap::GlobalAllocator::deallocate 𝓡.env wired)
    (code.calls-std_heap::GlobalAllocator::grow 𝓡.env wired)
    (code.calls-std_heap::GlobalAllocator::shrink 𝓡.env wired) M 𝓤 𝓛 𝓜 𝓡)
    (glues 𝓡.env (code.calls-rt_handle::Destruct++none::drop 𝓡.env wired) global.row global.laws M 𝓤 𝓛 𝓜 𝓡) in
    qed 𝓛 ((‵ ftrue ⊛ ‵ (fsep (Hr.own_val v z.0.4.0) (fsep (G.own_val a z.0.4.1.0) ftrue))) ∷ raw (fact 𝓤 (IsSome v.held)) ∷ []) ∵
    move ! (1 ∷ []) $ heard ! (IsSome v.held) (λ full.
    let x : Contents = (found v.held full).0 in let held : v.held ≡ Some x = (found v.held full).1 in
    let y : k.Ghost = ((κs, (full_share, (full_share, tt)), tt, (a, (v.at, tt)), (h.0 ∷ [], (ptr_val v.at ∷ [], tt))), x) in
    split ! $ move ! (1 ∷ []) $ fsplit ! $ fsplit ! $ drop ! $
    rewrite ! 0 (λ (it : Option Contents). ‵ (holds v.at it)) held refl $
    -- [the memory at the pointer; the allocator and no more; no tokens]
    use0 𝓛 (raw (fact 𝓤 ([] ⊑ []))) (fact_i 𝓤 ([] ⊑ []) (emp 𝓤) (⊑_refl [])) $ join ! $
    use0 𝓛 (raw (fact 𝓤 ([] ⊑ []))) (fact_i 𝓤 ([] ⊑ []) (emp 𝓤) (⊑_refl [])) $ join ! $
    move ! (1 ∷ []) $ fsplit ! $ rewrite ! 0 (λ (us : List Val). ‵ (G.own_val a us)) h.1 refl $
    nothing ! $ feq_i ! (List Val) (ptr_val v.at ∷ []) (ptr_val v.at ∷ []) refl $ fjoin ! $ move ! (1 ∷ 0 ∷ []) $ fjoin ! $
    nothing ! $ use0 𝓛 (‵ (flft [] full_share)) (𝓛.lfts.lft-nil full_share) $ join ! $
    use0 𝓛 (‵ (flft [] full_share)) (𝓛.lfts.lft-nil full_share) $ join ! $ join ! $
    move ! (0 ∷ 2 ∷ []) $ join ! $ use1 𝓛 (raw (k.pre y)) (id⊢ 𝓤 _) $
    suffices ! (Run (w ∷ h.0 ∷ [])) (subst (λ (us : List Val). ent 𝓤 (Run (w ∷ h.0 ∷ [])) (Run us))
    (sym (λ i. is i ++ (h.1 i ++ []))) (id⊢ 𝓤 (Run (w ∷ h.0 ∷ [])))) $
    enter ! 𝓣.C 𝓣.Λ fn (w ∷ h.0 ∷ []) Post $ alloc_all ! (λ l. pass_all ! refl (word_good v.at, (h.2, tt)) $
    let Ev = env fn.locals l in
    sets ! (of_opd ! (get_in ! (fld ! refl (stop !)) (sub ! 0 refl (whole !)))) refl (pointer_good v.at) $
    first ! $ blocks ! $ sets ! (of_opd ! (get ! refl)) refl (pointer_good v.at) $
    calls_at_last ! (fm 𝓛 𝓜 𝓡) k calls y (and_then ! (get ! refl) (and_then ! (get ! refl) (no_more !))) (λ u.
    use1 𝓛 (later (some (λ (r : B.Denot). (toks ⊛ ‵ (B.own_val r (u ∷ []))) ⊛ some (λ (ls : Lasts End κs y.0.3).
    ‵ (lasts End κs y.0.3 ls) ⊛ (raw (fact 𝓤 (r.value ≡ x)) ⊛ raw (fact 𝓤 (r.alloc ≡ a))))))) (id⊢ 𝓤 (k.post y u)) $
    await ! tt $ pick ! (λ r. split ! $ split ! $ drop ! $ move ! (1 ∷ []) $ pick ! (λ _. split3 ! $
    -- [nothing of the arguments; the clause on the value; the clause on the allocator; the box]
    drop ! $ heard ! (r.value ≡ x) (λ same. let Held = v.held ≡ Some r.value in drop ! $
    use0 𝓛 (raw (fact 𝓤 Held)) (fact_i 𝓤 Held (emp 𝓤) (held ∙ ap Some (sym same))) $ move ! (1 ∷ []) $
    peeks ! B (Is B) (shows 𝓛 B) r (u ∷ []) (λ i. let good = ((LB.lawful 𝓛).typed r (u ∷ []) i).0 in
    lands_last ! refl good $ exec ! 𝓣.C 𝓣.Λ Ev (after 2 fn.body) (at_ret Ev Post) $ sets ! (of_opd ! (get ! refl)) refl good $
    nothing ! $ nothing ! $ nothing ! $ fjoin ! $ nothing ! $ fjoin ! $ move ! (1 ∷ 0 ∷ []) $
    returns ! (look_at ! 0 refl) $ free_all ! refl $ keep ! (0 ∷ 1 ∷ 2 ∷ 3 ∷ []) $
    by ! (leaves 𝓛 En hs c z u r (rest (Hr.exit yes) v, (rest (G.exit yes) a, tt)) (tt, (tt, tt)))))))))))
