use Rattle.cilknow_c.proofs.Steps.{ℕ, ℤ, [], ◌∷◌, ◌++◌, refl, w32, w64, MutBor, proved, full_share, id⊢, ftrue, flft, flent, Lft, named, vint, vptr, fact, tables, ‵, raw, ◌⊛◌, some, later, prop, ◌$◌, ◌∵◌, !, qed, done, move, keep, use1, use3, split, join, fsplit, fjoin, pick, await, regoal, suffices, frame, group, lft_new, lft_end, enter, of_opd, addr, stop, no_more, and_then, returns, alloc_all, pass_all, free_all, look_at, get, through, sets, lands_as, Body, u8, u32, i64, yes, Is, shows, uint_vals, uint_Tells, uint_Makes, sint_Lawful, Ptr, RawPtr, block_ptr, lies_at, in_a_block, rawptr_vals, rawptr_Tells, MutRef, mem, lends_ref, ref_back, plain, nothing, owned, peeks, heard, calls_at, Lasts, lasts, triple_of, Stays, walk_of, says, stay_dropped, Goes-dropped, ends_at, on_exit, framed, MutSlice, mut_slice_vals, mut_slice_Tells, mut_slice_Lawful, gave_slice, Goes-gave_slice}
use prog.Wp.{WpFn}
use base.Logic.{sep, via, mono_r, ex_i}
use types.Logic.{sem}
use types.Run.{fld, hop, from}
use types.ByLocal.{get_in, look_in_at}
use types.Part.{agg, sub, whole}
use Rattle.cilknow_c.specs.Hosts.{GiveComes}
use Rattle.cilknow_c.specs.contracts.cilknow_give as f
use Rattle.actors.specs.contracts.host_actor.HostActor.{the_row as R}
use Rattle.cilknow_c.proofs.cilknow_give.Statement.{statement}
use Rattle.cilknow_c.proofs.cilknow_give.Code as code
use Rattle.actors.specs.contracts.host_actor.HostActor.give as g
use Rattle.actors.proofs.host_actor.HostActor.give.Met.{met}

abbrev stayed : Stays f.ended.signature.params f.ended.kept
stayed = (stay_dropped _ yes, (stay_dropped _ yes, (gave_slice (0 ∷ []) tt (plain (λ _. u8)), tt)))

pub cilknow_give_spec : {M : Type 1} → statement M
cilknow_give_spec 𝓤 𝓛 𝓜 𝓡 wired =
    let c = f.clauses 𝓛 𝓜.mem 𝓡.returns in let W = walk_of 𝓛 f.ended stayed c in let 𝓣 = tables 𝓤 𝓛.H 𝓜 𝓡 𝓡.env in
    let G = triple_of 𝓛 g.signature (g.spec 𝓛 𝓜.mem 𝓡.returns) in
    proved 𝓛 f.ended stayed c 𝓜 𝓡 (
      Goes-dropped 𝓛 1 (plain (λ _. RawPtr)) yes (λ κs x w. refl),
      (Goes-dropped 𝓛 1 (plain (λ _. u32)) yes (λ κs x w. refl), (Goes-gave_slice 𝓛 1 0 tt (plain (λ _. u8)), tt)),
    )
    f.Key.name code.function (code.unfolded 𝓤 𝓛.H 𝓜 𝓡 wired)
    (λ κs. (rawptr_vals, (uint_vals w32, (mut_slice_vals, tt))))
    (λ κs. (rawptr_Tells, (uint_Tells w32, (mut_slice_Tells (named 0) κs.0 u8, tt)))) (λ κs qs bounds a before are.
    let m = a.1.0 in let s = a.1.1.0 in let SL = MutSlice (named 0) κs.0 u8 in
    let y : Ptr → W.Ghost = λ p. (
      (
        κs,
        qs,
        bounds,
        (p, (m, (s, tt))),
        (rawptr_vals p, (uint_vals w32 m, (mut_slice_vals s, tt))),
      ),
      before,
    ) in
    qed 𝓛 (((‵ (flft κs.0 qs.0) ⊛ ‵ ftrue) ⊛
    (‵ (RawPtr.own_val a.0 (rawptr_vals a.0)) ⊛ ‵ (u32.own_val m (uint_vals w32 m)) ⊛ ‵
    (SL.own_val s (mut_slice_vals s)) ⊛ ‵ ftrue)) ∷ ‵ (lies_at R full_share a.0 before) ∷ []) ∵
    split ! $ split ! $ move ! (2 ∷ []) $ split ! $ move ! (1 ∷ []) $ split ! $ move ! (1 ∷ []) $ split ! $ keep !
    (6 ∷ 0 ∷ 4 ∷ []) $
    in_a_block ! a.0 (λ p. lies_at R full_share p before) (id⊢ 𝓤 _) (λ b o e.
    regoal ! (λ p. prop (WpFn 𝓤 𝓛.H 𝓣.C 𝓣.Λ code.function (rawptr_vals p ++ (vint w32 m ∷ (mut_slice_vals s ++ [])))
    (W.post (y p)))) e refl $
    enter ! _ _ _ _ _ $ alloc_all ! (λ l.
    pass_all ! refl (
      (tt, tt),
      (
        (tt, record { fits = are.1.0.1 }),
        (((mut_slice_Lawful 𝓛 (named 0) κs.0 u8).typed s _ are.1.1.0).0, tt),
      ),
    ) $
    sets ! (of_opd ! (get ! refl)) refl (tt, tt) $
    sets ! (addr ! (through ! refl (stop !))) refl (tt, tt) $
    sets ! (addr ! (through ! refl (stop !))) refl (tt, tt) $
    sets ! (addr ! (from ! (fld ! refl (hop ! (look_in_at ! 3 (sub ! 0 refl (whole !))) (stop !))))) refl (tt, tt) $
    sets ! (agg ! (and_then ! (get ! refl)
    (and_then ! (get_in ! (fld ! refl (stop !)) (sub ! 1 refl (whole !))) (no_more !)))) refl
    ((mut_slice_Lawful 𝓛 (named 0) κs.0 u8).typed s _ are.1.1.0).0 $
    lft_new ! tt (λ α. let κ : Lft = α ∷ [] in
    -- [the token; the actor; the slice; its token]
    move ! (1 ∷ []) $
    use1 𝓛 (later (some (λ (δ : ℕ). ‵ ((MutRef (named 0) κ R).own_val
    (record { ref_ptr = (b, o); ghost_name = δ; now = before }) (vptr b o ∷ [])) ⊛ ‵
    (flent κ (Body (mem R) b o δ)))))
    (lends_ref 𝓛 R (named 0) κ before b o) $ await ! tt $ pick ! (λ δ. split ! $
    -- [the loan; what the lender keeps; the token; the slice; its token]
    let x : MutBor R.Denot = record { ref_ptr = (b, o); ghost_name = δ; now = before } in
    let z : G.Ghost = (
      (
        (κ, (κs.0, tt)),
        (full_share, (qs.0, tt)),
        tt,
        (x, (m, (s, tt))),
        (vptr b o ∷ [], (vint w32 m ∷ [], (mut_slice_vals s, tt))),
      ),
      tt,
    ) in
    nothing ! $ move ! (4 ∷ 0 ∷ []) $ fjoin ! $ owned ! u32 (Is u32) (uint_Makes 𝓛 w32) m _
    (refl, are.1.0.1) $ fjoin ! $ move ! (1 ∷ 0 ∷ []) $ fjoin ! $
    nothing ! $ move ! (4 ∷ 0 ∷ []) $ join ! $ move ! (3 ∷ 0 ∷ []) $ join ! $ join ! $ nothing ! $ move !
    (1 ∷ 0 ∷ []) $ join ! $ use1 𝓛 (raw (G.pre z)) (id⊢ 𝓤 (G.pre z)) $
    calls_at ! (framed 𝓤 𝓛.H 𝓜 𝓣) G (met 𝓤 𝓛 𝓜 𝓡 (code.calls-actors::host_actor::HostActor::give 𝓡.env wired)) z
    (and_then ! (get ! refl) (and_then ! (get ! refl) (and_then ! (get ! refl) (no_more !)))) (λ v.
    use1 𝓛 (later (some (λ (r : ℤ). ((‵ (flft κ full_share) ⊛ ‵ (flft κs.0 qs.0) ⊛ ‵ ftrue) ⊛ ‵
    (i64.own_val r (v ∷ []))) ⊛
    some (λ (ws : Lasts g.ended (κ, (κs.0, tt)) (x, (m, (s, tt)))). ‵
    (lasts g.ended (κ, (κs.0, tt)) (x, (m, (s, tt))) ws) ⊛ raw
    (fact 𝓤 (GiveComes m r s.now ws.1.1.0 before ws.0)))))) (id⊢ 𝓤 _) $
    await ! tt $ pick ! (λ r. split ! $ split ! $ split ! $ lft_end ! tt $
    -- [the token's end; the slice's token; the result; what is ensured; what the lender keeps]
    move ! (2 ∷ []) $ peeks ! i64 (Is i64) (shows 𝓛 i64) r (v ∷ [])
    (λ is. lands_as ! refl refl ((sint_Lawful 𝓛 w64).typed r _ is).0 $
    move ! (3 ∷ []) $ pick ! (λ ws. split ! $ move ! (1 ∷ []) $ heard ! _ (λ comes. fsplit ! $
    fsplit ! $ move ! (4 ∷ 6 ∷ 0 ∷ []) $ use3 𝓛 (later (‵ ((mem R).own_at ws.0 b o)))
    (ref_back 𝓛 R κ δ ws.0 b o) $ await ! tt $
    -- [the actor; what is said of it; of the slice; the result; the slice's token]
    move ! (2 ∷ []) $ fsplit ! $ move ! (1 ∷ []) $ fsplit ! $ fsplit ! $ fsplit ! $ move ! (0 ∷ 2 ∷ []) $ fjoin ! $
    -- [what was given of the slice; its length; nothing; the number; the actor; what is said of it;
    -- the result; the slice's token]
    returns ! (look_at ! 0 refl) $ free_all ! refl $ keep ! (6 ∷ 0 ∷ 7 ∷ 4 ∷ []) $
    suffices ! _ (via 𝓤 _ (mono_r 𝓤 (on_exit 𝓛 f.ended stayed κs qs
    (rawptr_vals (block_ptr b o), (uint_vals w32 m, (mut_slice_vals s, tt))) v r (block_ptr b o, (m, (s, tt)))
    (tt, (tt, (ws.1.1.0, tt)))) (ex_i 𝓤
    (λ (after : R.Denot). sep 𝓤 (sem 𝓛 (lies_at R full_share (block_ptr b o) after))
    (fact 𝓤 (GiveComes m r s.now ws.1.1.0 before after))) ws.0))
    (ends_at 𝓛 f.ended stayed c (y (block_ptr b o)) v r (tt, (tt, (ws.1.1.0, tt))) (tt, (tt, (comes.0, tt))))) $
    nothing ! $ move ! (2 ∷ 0 ∷ []) $ join ! $ nothing ! $ join ! $ nothing ! $ join ! $ move !
    (2 ∷ 0 ∷ 1 ∷ []) $ group ! 3 $ frame ! $ says ! comes $ done !))))))))))
