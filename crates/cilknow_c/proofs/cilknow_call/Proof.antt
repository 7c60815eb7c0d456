use Rattle.cilknow_c.proofs.Steps.{ℕ, ℤ, [], ◌∷◌, ◌++◌, refl, w32, w64, MutBor, proved, full_share, id⊢, ftrue, flft, flent, Lft, named, vint, vptr, fact, tables, ‵, raw, ◌⊛◌, some, later, prop, ◌$◌, ◌∵◌, !, qed, done, move, keep, drop, use1, use3, split, join, fsplit, fjoin, pick, await, regoal, suffices, frame, group, lft_new, lft_end, enter, of_opd, addr, stop, no_more, and_then, returns, alloc_all, pass_all, free_all, look_at, get, through, sets, lands_as, Body, u32, u64, i64, yes, Is, shows, uint_vals, uint_Tells, uint_Makes, sint_Lawful, Ptr, RawPtr, block_ptr, lies_at, in_a_block, rawptr_vals, rawptr_Tells, MutRef, mem, lends_ref, ref_back, plain, nothing, owned, peeks, heard, calls_at, Lasts, lasts, on_entry, triple_of, Stays, walk_of, says, stay_dropped, Goes-dropped, ends_at, on_exit, framed}
use prog.Wp.{WpFn}
use base.Logic.{sep, via, mono_r, ex_i}
use types.Logic.{sem}
use Rattle.cilknow_c.specs.Hosts.{CallComes}
use Rattle.cilknow_c.specs.contracts.cilknow_call as f
use Rattle.actors.specs.contracts.host_actor.HostActor.{the_row as R}
use Rattle.cilknow_c.proofs.cilknow_call.Statement.{statement}
use Rattle.cilknow_c.proofs.cilknow_call.Code as code
use Rattle.actors.specs.contracts.host_actor.HostActor.call as g
use Rattle.actors.proofs.host_actor.HostActor.call.Met.{met}

abbrev stayed : Stays f.ended.signature.params f.ended.kept
stayed = (stay_dropped _ yes, (stay_dropped _ yes, (stay_dropped _ yes, tt)))

pub cilknow_call_spec : {M : Type 1} → statement M
cilknow_call_spec 𝓤 𝓛 𝓜 𝓡 wired =
    let c = f.clauses 𝓛 𝓜.mem 𝓡.returns in let W = walk_of 𝓛 f.ended stayed c in let 𝓣 = tables 𝓤 𝓛.H 𝓜 𝓡 𝓡.env in
    let G = triple_of 𝓛 g.signature (g.spec 𝓛 𝓜.mem 𝓡.returns) in
    proved 𝓛 f.ended stayed c 𝓜 𝓡 (
      Goes-dropped 𝓛 0 (plain (λ _. RawPtr)) yes (λ κs x w. refl),
      (
        Goes-dropped 𝓛 0 (plain (λ _. u32)) yes (λ κs x w. refl),
        (Goes-dropped 𝓛 0 (plain (λ _. u64)) yes (λ κs x w. refl), tt),
      ),
    )
    f.Key.name code.function (code.unfolded 𝓤 𝓛.H 𝓜 𝓡 wired)
    (λ κs. (rawptr_vals, (uint_vals w32, (uint_vals w64, tt))))
    (λ κs. (rawptr_Tells, (uint_Tells w32, (uint_Tells w64, tt)))) (λ κs qs bounds a before are.
    let m = a.1.0 in let n = a.1.1.0 in
    let y : Ptr → W.Ghost = λ p. (
      (
        κs,
        qs,
        bounds,
        (p, (m, (n, tt))),
        (rawptr_vals p, (uint_vals w32 m, (uint_vals w64 n, tt))),
      ),
      before,
    ) in
    qed 𝓛 (raw (on_entry 𝓛 f.signature κs qs a (y a.0).0.4) ∷ ‵ (lies_at R full_share a.0 before) ∷ []) ∵ drop ! $
    in_a_block ! a.0 (λ p. lies_at R full_share p before) (id⊢ 𝓤 _) (λ b o e.
    regoal ! (λ p. prop (WpFn 𝓤 𝓛.H 𝓣.C 𝓣.Λ code.function (rawptr_vals p ++ (vint w32 m ∷ vint w64 n ∷ []))
    (W.post (y p)))) e refl $
    enter ! _ _ _ _ _ $ alloc_all ! (λ l.
    pass_all ! refl ((tt, tt), ((tt, record { fits = are.1.0.1 }), ((tt, record { fits = are.1.1.0.1 }), tt))) $
    sets ! (of_opd ! (get ! refl)) refl (tt, tt) $
    sets ! (addr ! (through ! refl (stop !))) refl (tt, tt) $
    sets ! (addr ! (through ! refl (stop !))) refl (tt, tt) $
    lft_new ! tt (λ α. let κ : Lft = α ∷ [] in
    -- [the token; the actor]
    move ! (1 ∷ []) $
    use1 𝓛 (later (some (λ (δ : ℕ). ‵ ((MutRef (named 0) κ R).own_val
    (record { ref_ptr = (b, o); ghost_name = δ; now = before }) (vptr b o ∷ [])) ⊛ ‵
    (flent κ (Body (mem R) b o δ)))))
    (lends_ref 𝓛 R (named 0) κ before b o) $ await ! tt $ pick ! (λ δ. split ! $
    -- [the loan; what the lender keeps; the token]
    let x : MutBor R.Denot = record { ref_ptr = (b, o); ghost_name = δ; now = before } in
    let z : G.Ghost = (
      (
        (κ, tt),
        (full_share, tt),
        tt,
        (x, (m, (n, tt))),
        (vptr b o ∷ [], (vint w32 m ∷ [], (vint w64 n ∷ [], tt))),
      ),
      tt,
    ) in
    nothing ! $ owned ! u64 (Is u64) (uint_Makes 𝓛 w64) n _ (refl, are.1.1.0.1) $ fjoin ! $ owned ! u32 (Is u32)
    (uint_Makes 𝓛 w32) m _ (refl, are.1.0.1) $ fjoin ! $ move ! (1 ∷ 0 ∷ []) $ fjoin ! $
    nothing ! $ move ! (3 ∷ 0 ∷ []) $ join ! $ join ! $ nothing ! $ move ! (1 ∷ 0 ∷ []) $ join ! $ use1 𝓛
    (raw (G.pre z)) (id⊢ 𝓤 (G.pre z)) $
    calls_at ! (framed 𝓤 𝓛.H 𝓜 𝓣) G (met 𝓤 𝓛 𝓜 𝓡 (code.calls-actors::host_actor::HostActor::call 𝓡.env wired)) z
    (and_then ! (get ! refl) (and_then ! (get ! refl) (and_then ! (get ! refl) (no_more !)))) (λ v.
    use1 𝓛 (later (some (λ (r : ℤ). ((‵ (flft κ full_share) ⊛ ‵ ftrue) ⊛ ‵ (i64.own_val r (v ∷ []))) ⊛
    some (λ (ws : Lasts g.ended (κ, tt) (x, (m, (n, tt)))). ‵ (lasts g.ended (κ, tt) (x, (m, (n, tt))) ws) ⊛ raw
    (fact 𝓤 (CallComes m n r before ws.0)))))) (id⊢ 𝓤 _) $
    await ! tt $ pick ! (λ r. split ! $ split ! $ split ! $ lft_end ! tt $
    move ! (2 ∷ []) $ peeks ! i64 (Is i64) (shows 𝓛 i64) r (v ∷ [])
    (λ is. lands_as ! refl refl ((sint_Lawful 𝓛 w64).typed r _ is).0 $
    move ! (3 ∷ []) $ pick ! (λ ws. split ! $ move ! (1 ∷ []) $ heard ! _ (λ comes. fsplit ! $
    fsplit ! $ move ! (4 ∷ 6 ∷ 0 ∷ []) $ use3 𝓛 (later (‵ ((mem R).own_at ws.0 b o)))
    (ref_back 𝓛 R κ δ ws.0 b o) $ await ! tt $
    returns ! (look_at ! 0 refl) $ free_all ! refl $ keep ! (3 ∷ 0 ∷ []) $
    suffices ! _ (via 𝓤 _ (mono_r 𝓤 (on_exit 𝓛 f.ended stayed κs qs
    (rawptr_vals (block_ptr b o), (uint_vals w32 m, (uint_vals w64 n, tt))) v r (block_ptr b o, (m, (n, tt)))
    (tt, (tt, (tt, tt)))) (ex_i 𝓤 (λ (after : R.Denot). sep 𝓤 (sem 𝓛 (lies_at R full_share (block_ptr b o) after))
    (fact 𝓤 (CallComes m n r before after))) ws.0))
    (ends_at 𝓛 f.ended stayed c (y (block_ptr b o)) v r (tt, (tt, (tt, tt))) (tt, (tt, (tt, tt))))) $
    nothing ! $ nothing ! $ join ! $ nothing ! $ join ! $ nothing ! $ join ! $ nothing ! $ group ! 3 $ frame ! $ says ! comes $ done !))))))))))
