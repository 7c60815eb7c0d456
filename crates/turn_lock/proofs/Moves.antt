-- Each step keeps the rule.
use Rattle.std.proofs.Common.{◌≡◌, ◌≢◌, ℕ, zero, suc, ◌+◌, ◌<◌, ◌≤◌, ◌==◌, Bool, false, MatchBool, List, [], ◌∷◌, ◌++◌, length, length-append, length-set, get_or, get_or-set_same, set, sum_by, IfSome, Option, None, Some, unwrap_or, sym, refl, ap, ◌∙◌, subst, inl, inr, ⊎_elim, arith}
use Rattle.std.proofs.lemmas.Bool.Decides.{nat_tests}
use mathlib.Core.Option.{none, some, some-injective, some-ne-none}
use mathlib.Core.Logic.{dite}
use native.Mathlib.Decide.{ℕ_discrete}
use Rattle.std.proofs.lemmas.Option.{none-some}
use prog.Atomic.{either}
use lib.ListN.{get_elem?}
use Rattle.atomic_table.specs.Table.{State, Me, Step, Act, rest, Valid, carried_after, step, keeps, takes, gives, stepped, opening, Allows, Enters, Splits, Joins, Final, Seen}
use Rattle.atomic_table.proofs.Lists.{at_set, at_snoc, at_longer, set_else, set_again}
use Rattle.turn_lock.specs.declared.law.SeatView.{SeatView}
use Rattle.turn_lock.specs.declared.law.Terms.{Terms}
use Rattle.turn_lock.specs.Histories.{own, AreOf}
use Rattle.turn_lock.specs.Claims.{ClaimOf, claim, times_below, times_claimed, first_of, rest_of, AreOwn, updated}
use Rattle.turn_lock.specs.Views.{seat_view, first_view, no_view, left_of, dealt_of, gathered, TakenByNone, TakenOnlyBy, Knows, EachKnows, EachOwn, IsHome, IsOut, Accounted, TakesOut, FindsOut, Takes, Puts, Comes}
use Rattle.turn_lock.specs.Ends.{slots_of}
use Rattle.turn_lock.proofs.ClaimLemmas.{times_claimed-append, none_claimed, claimed_here, times_claimed-empty_claims, length-empty_claims, own_empty, own_both, own_kept, own_updated}
use Rattle.turn_lock.proofs.HistoryLemmas.{own-append, own_others}
use Rattle.turn_lock.proofs.Totals.{total-set, total-snoc, le_total, total_alone, each-set, each-snoc}

at_self : {X : Type 0} (views : List X) (i : ℕ) (v u : X) → get_elem? views i ≡ some v
    → get_elem? (set views i u) i ≡ some u
at_self [] i v u e = absurd (some-ne-none v (sym e))
at_self (x ∷ xs) zero v u e = refl
at_self (x ∷ xs) (suc i) v u e = at_self xs i v u e

some_none : {X : Type 0} {x : X} → Some x ≡ None → ⊥
some_none {X} {x} e = none-some x (sym e)

pub some_same : {X : Type 0} {x y : X} → Some x ≡ Some y → x ≡ y
some_same {X} {x} e = ap (λ o. unwrap_or o x) e

-- a view that knows nothing knows it right
knows_nothing : (E : Type 0) {A : Type 0} (terms : Terms A) → Knows {E = E} terms no_view
knows_nothing E terms = (tt, λ known. absurd (nothing known))
  where
    nothing : 0 < 0 → ⊥
    nothing h = omega arith

module _ {E A : Type 0} where
  -- who hasn't taken the value isn't who has it
  not_holder : {D : Type 0} (s : State (Option D) (SeatView E A)) (log : List E) (out : IsOut s log) (id : ℕ)
      (v : SeatView E A) → v.taken ≡ None → get_elem? s.views id ≡ some v → out.by ≢ id
  not_holder s log out id v free at same =
      let view : out.view ≡ v = some-injective out.view v (sym out.at ∙ (ap (λ i. get_elem? s.views i) same ∙ at)) in
      some_none (sym out.took ∙ (ap (λ (x : SeatView E A). x.taken) view ∙ free))

module _ {D E A : Type 0} (history : D → List E) (actor_of : E → ℕ) (fixed_of : D → A) where
  abbrev St : Type 0
  St = State (Option D) (SeatView E A)

  abbrev M : Type 0
  M = Me (Option D) (SeatView E A)

  -- a lock at its start
  pub opens : (terms : Terms A) (kept : D) → history kept ≡ [] → fixed_of kept ≡ terms.fixed
      → Accounted history actor_of fixed_of terms (opening (0 ∷ []) (Some kept ∷ []) (first_view terms))
  opens terms kept empty same =
      let w : SeatView E A = first_view terms in
      record {
        one_word = refl;
        log = [];
        stands = inl (record {
          word = refl;
          kept = kept;
          homes = refl;
          logged = empty;
          same = same;
          untaken =
              each-snoc (λ (v : SeatView E A). v.taken ≡ None) [] w (λ i v e. absurd (some-ne-none v (sym e))) refl;
        });
        told = each-snoc (λ (v : SeatView E A). AreOwn actor_of v.claims []) [] w
            (λ i v e. absurd (some-ne-none v (sym e))) (own_empty actor_of 0 terms.actors);
        known = each-snoc (λ (v : SeatView E A). Knows terms v) [] w (λ i v e. absurd (some-ne-none v (sym e)))
            (refl, λ some_there. refl);
        each_once = λ a. let t = times_claimed-empty_claims E a 0 terms.actors in let s =
            total-snoc (λ (v : SeatView E A). times_claimed a v.claims) [] w in grind (arith, nat_tests);
        many = (let t = length-empty_claims E 0 terms.actors in let s =
            total-snoc (λ (v : SeatView E A). length v.claims) [] w in omega arith);
        no_others = λ a h. refl;
      }

  -- who is claimed is one of the lock's actors
  claimed_below : (terms : Terms A) (s : St) (kept : Accounted history actor_of fixed_of terms s) (a id : ℕ)
      (v : SeatView E A) → get_elem? s.views id ≡ some v → 0 < times_claimed a v.claims → a < terms.actors
  claimed_below terms s kept a id v at claimed =
      let l = le_total (λ (x : SeatView E A). times_claimed a x.claims) s.views id v at in
      let p = kept.each_once a in
      grind (arith, nat_tests)

  -- who is claimed by one view is claimed by no other
  claimed_once : (terms : Terms A) (s : St) (kept : Accounted history actor_of fixed_of terms s) (a id : ℕ)
      (v : SeatView E A) → get_elem? s.views id ≡ some v → 0 < times_claimed a v.claims
      → (j : ℕ) (u : SeatView E A) → j ≢ id → get_elem? s.views j ≡ some u → times_claimed a u.claims ≡ 0
  claimed_once terms s kept a id v at claimed j u apart there =
      let t = total-set (λ (x : SeatView E A). times_claimed a x.claims) s.views id v no_view at in
      let l = le_total (λ (x : SeatView E A). times_claimed a x.claims) (set s.views id no_view) j u
      (set_else s.views id j no_view apart ∙ there) in
      let p = kept.each_once a in
      grind (arith, nat_tests)

  -- the value is there: it leaves the slot
  leaves : (terms : Terms A) (s : St) (id a new : ℕ) (me : M) (kept : Accounted history actor_of fixed_of terms s)
      (home : IsHome history fixed_of terms s kept.log) → get_elem? s.views id ≡ some me.0 → new ≡ a + 1
      → 0 < times_claimed a me.0.claims
      → Accounted history actor_of fixed_of terms
      (stepped s 0 new id me.1 (seat_view me.0.claims (Some (history home.kept)) me.0.fixed me.0.actors)
      (takes 0 (Some home.kept)))
  leaves terms s id a new me kept home at names claimed =
      let w : SeatView E A = seat_view me.0.claims (Some (history home.kept)) me.0.fixed me.0.actors in
      let one = kept.one_word in
      let word : get_or (set s.words 0 new) 0 0 ≡ new = get_or-set_same s.words 0 new 0 (omega arith) in
      record {
        one_word = length-set s.words 0 new ∙ kept.one_word;
        log = kept.log;
        stands = inr (record {
          holder = a;
          word = word ∙ names;
          homes = ap (λ l. set l 0 none) home.homes;
          by = id;
          view = w;
          at = at_self s.views id me.0 w at;
          claimed = claimed;
          took = ap Some home.logged;
          untaken = λ j v e apart. ⊎_elim (λ t. absurd (apart t.0)) (λ t. home.untaken j v t.1)
              (at_set s.views id j w v e);
        });
        told = each-set (λ (v : SeatView E A). AreOwn actor_of v.claims kept.log) s.views id w kept.told
            (kept.told id me.0 at);
        known = each-set (λ (v : SeatView E A). Knows terms v) s.views id w kept.known (kept.known id me.0 at);
        each_once = λ b. (let t = total-set
            (λ (v : SeatView E A). times_claimed b v.claims) s.views id me.0 w at in let p =
            kept.each_once b in omega arith);
        many = (let t = total-set (λ (v : SeatView E A). length v.claims) s.views id me.0 w at in let p =
            kept.many in omega arith);
        no_others = kept.no_others;
      }

  -- the value isn't there: nothing changes
  unchanged : (terms : Terms A) (s : St) (id : ℕ) (me : M) → Accounted history actor_of fixed_of terms s
      → get_elem? s.views id ≡ some me.0
      → Accounted history actor_of fixed_of terms (stepped s 0 (get_or s.words 0 0) id me.1 me.0 keeps)
  unchanged terms s id me kept at =
      let words : set s.words 0 (get_or s.words 0 0) ≡ s.words = set_same s.words in
      let views : set s.views id me.0 ≡ s.views = set_again s.views id me.0 at in
      let e : (stepped s 0 (get_or s.words 0 0) id me.1 me.0 keeps) ≡ s =
      λ i. record { words = words i; homes = s.homes; views = views i } in
      subst (λ (t : St). Accounted history actor_of fixed_of terms t) (sym e) kept
    where
      set_same : (l : List ℕ) → set l 0 (get_or l 0 0) ≡ l
      set_same [] = refl
      set_same (x ∷ xs) = refl

  pub take : (terms : Terms A) (slots id a new : ℕ) (me : M) → new ≡ a + 1 → 0 < times_claimed a me.0.claims
      → me.0.taken ≡ None
      → Allows (Accounted history actor_of fixed_of terms) slots id me 0 (λ n. either (n == 0) new n)
      (Takes history actor_of fixed_of (step slots 0 0 new none) me)
  take terms slots id a new me names claimed free s kept long at room = ⊎_elim is_home is_out kept.stands
    where
      n : ℕ
      n = get_or s.words 0 0

      Told : Bool → ℕ → M → Type 0
      Told b m after = MatchBool b (TakesOut history actor_of fixed_of me after) (FindsOut me m after)

      Goes : Bool → ℕ → Type 0
      Goes b m = (w : SeatView E A) × (x : Act (Option D)) × Valid s.homes me.1 x
          × Accounted history actor_of fixed_of terms (stepped s 0 (either b new m) id me.1 w x)
          × Told b m (w, carried_after me.1 x)

      is_home : IsHome history fixed_of terms s kept.log → Goes (n == 0) n
      is_home home = subst (λ m. Goes (m == 0) m) (sym home.word) (
        seat_view me.0.claims (Some (history home.kept)) me.0.fixed me.0.actors,
        takes 0 (Some home.kept),
        ap (λ l. get_elem? l 0) home.homes,
        leaves terms s id a new me kept home at names claimed,
        (
          home.kept,
          refl,
          subst (AreOwn actor_of me.0.claims) (sym home.logged) (kept.told id me.0 at),
          subst (λ x. IfSome me.0.fixed (λ y. y ≡ x)) (sym home.same) (kept.known id me.0 at).0,
        ),
      )

      -- the holder is none of the seat's actors, and is one of the lock's
      another : (out : IsOut s kept.log) → times_claimed out.holder me.0.claims ≡ 0
      another out = claimed_once terms s kept out.holder out.by out.view out.at out.claimed id me.0
          (λ same. not_holder s kept.log out id me.0 free at (sym same)) at

      inside : (out : IsOut s kept.log) → 0 < me.0.actors → out.holder < me.0.actors
      inside out some_there =
          let same = (kept.known id me.0 at).1 some_there in
          let lower = claimed_below terms s kept out.holder out.by out.view out.at out.claimed in
          omega arith

      is_out : IsOut s kept.log → Goes (n == 0) n
      is_out out =
          let word = out.word in
          let is : (n == 0) ≡ false = grind (arith, nat_tests) in
          subst (λ b. Goes b n) (sym is) (
            me.0,
            keeps,
            tt,
            unchanged terms s id me kept at,
            (out.holder, out.word, refl, another out, inside out),
          )

  -- the value that a seat has comes back, with what its actor did
  put_back : (terms : Terms A) (s : St) (id a actors : ℕ) (mine log es : List E) (fixed : A) (back : D)
      (kept : Accounted history actor_of fixed_of terms s)
      → get_elem? s.views id ≡ some (seat_view (claim a mine ∷ []) (Some log) (Some fixed) actors)
      → history back ≡ log ++ es → fixed_of back ≡ fixed → AreOf actor_of a es → IsOut s kept.log
      → Accounted history actor_of fixed_of terms
      (stepped s 0 0 id ((0, Some back) ∷ [])
      (seat_view (updated actor_of (history back) (claim a mine ∷ [])) None (Some fixed) actors) gives)
  put_back terms s id a actors mine log es fixed back kept at grown same of out =
      let v : SeatView E A = seat_view (claim a mine ∷ []) (Some log) (Some fixed) actors in
      let w : SeatView E A = seat_view (updated actor_of (history back) (claim a mine ∷ [])) None (Some fixed) actors in
      let one = kept.one_word in
      let word : get_or (set s.words 0 0) 0 0 ≡ 0 = get_or-set_same s.words 0 0 0 (omega arith) in
      let now : history back ≡ kept.log ++ es = grown ∙ ap (λ l. l ++ es) (sym same_log) in
      let log' : List E = kept.log ++ es in
      record {
        one_word = length-set s.words 0 0 ∙ kept.one_word;
        log = log';
        stands = inl (record {
          word = word;
          kept = back;
          homes = ap (λ l. set l 0 (some (Some back))) out.homes;
          logged = now;
          same = same ∙ (kept.known id v at).0;
          untaken = λ j u e. ⊎_elim (λ t. ap (λ (x : SeatView E A). x.taken) (sym t.1))
              (λ t. out.untaken j u t.1 (λ by. t.0 (by ∙ by_id))) (at_set s.views id j w u e);
        });
        told = λ j u e. ⊎_elim
            (λ t. subst (λ (x : SeatView E A). AreOwn actor_of x.claims log') t.1
            (subst (AreOwn actor_of w.claims) now (own_updated actor_of (claim a mine ∷ []) (history back))))
            (λ t. own_kept actor_of u.claims a kept.log es of
            (claimed_once terms s kept a id v at (claimed_here a mine) j u t.0 t.1) (kept.told j u t.1))
            (at_set s.views id j w u e);
        known = each-set (λ (x : SeatView E A). Knows terms x) s.views id w kept.known (kept.known id v at);
        each_once = λ b. (let t = total-set
            (λ (x : SeatView E A). times_claimed b x.claims) s.views id v w at in let p =
            kept.each_once b in omega arith);
        many = (let t = total-set (λ (x : SeatView E A). length x.claims) s.views id v w at in let p =
            kept.many in omega arith);
        no_others = λ b over. own-append actor_of b kept.log es
            ∙ (ap (λ l. l ++ own actor_of b es) (kept.no_others b over)
            ∙ own_others actor_of a b es of (λ is. outside b is over));
      }
    where
      v : SeatView E A
      v = seat_view (claim a mine ∷ []) (Some log) (Some fixed) actors

      by_id : out.by ≡ id
      by_id = dite (ℕ_discrete id out.by) (λ e. sym e) (λ ne. absurd (some_none (out.untaken id v at ne)))

      same_log : kept.log ≡ log
      same_log =
          let view : out.view ≡ v = some-injective out.view v (sym out.at
          ∙ (ap (λ i. get_elem? s.views i) by_id ∙ at)) in
          some_same (sym out.took ∙ ap (λ (x : SeatView E A). x.taken) view)

      outside : (b : ℕ) → b ≡ a → terms.actors ≤ b → ⊥
      outside b is over = let lower = claimed_below terms s kept a id v at (claimed_here a mine) in omega arith

  put : (terms : Terms A) (slots id a actors : ℕ) (mine log es : List E) (fixed : A) (back : D)
      → history back ≡ log ++ es → fixed_of back ≡ fixed → AreOf actor_of a es
      → Allows (Accounted history actor_of fixed_of terms) slots id
      (seat_view (claim a mine ∷ []) (Some log) (Some fixed) actors, (0, Some back) ∷ []) 0 (λ _. 0)
      (λ _. Puts history actor_of (step slots 0 0 0 none)
      (seat_view (claim a mine ∷ []) (Some log) (Some fixed) actors, (0, Some back) ∷ []) 0)
  put terms slots id a actors mine log es fixed back grown same of s kept long at room = (
    seat_view (updated actor_of (history back) (claim a mine ∷ [])) None (Some fixed) actors,
    gives,
    tt,
    put_back terms s id a actors mine log es fixed back kept at grown same of is_out,
    refl,
  )
    where
      is_out : IsOut s kept.log
      is_out = ⊎_elim (λ home. absurd (some_none
          (home.untaken id (seat_view (claim a mine ∷ []) (Some log) (Some fixed) actors) at))) (λ out. out) kept.stands

  -- where the views change but not what they claim, and who has the value keeps its view
  recounted : (terms : Terms A) (s : St) (views : List (SeatView E A))
      (kept : Accounted history actor_of fixed_of terms s) → EachOwn actor_of views kept.log → EachKnows terms views
      → ((a : ℕ) → sum_by (λ (v : SeatView E A). times_claimed a v.claims) views
      ≡ sum_by (λ (v : SeatView E A). times_claimed a v.claims) s.views)
      → sum_by (λ (v : SeatView E A). length v.claims) views ≡ sum_by (λ (v : SeatView E A). length v.claims) s.views
      → (TakenByNone s.views → TakenByNone views)
      → ((out : IsOut s kept.log) → (get_elem? views out.by ≡ some out.view) × TakenOnlyBy out.by views)
      → Accounted history actor_of fixed_of terms (record { words = s.words; homes = s.homes; views = views })
  recounted terms s views kept told known each many free still = record {
    one_word = kept.one_word;
    log = kept.log;
    stands = ⊎_elim (λ h. inl (record {
      word = h.word;
      kept = h.kept;
      homes = h.homes;
      logged = h.logged;
      same = h.same;
      untaken = free h.untaken;
    }))
        (λ o. let p = still o in inr (record {
          holder = o.holder;
          word = o.word;
          homes = o.homes;
          by = o.by;
          view = o.view;
          at = p.0;
          claimed = o.claimed;
          took = o.took;
          untaken = p.1;
        })) kept.stands;
    told = told;
    known = known;
    each_once = λ a. each a ∙ kept.each_once a;
    many = many ∙ kept.many;
    no_others = kept.no_others;
  }

  pub comes : (terms : Terms A) (slots : ℕ) (first : M)
      → Enters (Accounted history actor_of fixed_of terms) slots 0
      (λ n w. Comes (step slots 0 0 0 none) first n (w, []))
  comes terms slots first s kept long room =
      let w : SeatView E A = no_view in (
        w,
        recounted terms s (s.views ++ w ∷ []) kept
            (each-snoc (λ (v : SeatView E A). AreOwn actor_of v.claims kept.log) s.views w kept.told tt)
            (each-snoc (λ (v : SeatView E A). Knows terms v) s.views w kept.known (knows_nothing E terms))
            (λ a. let t = total-snoc (λ (v : SeatView E A). times_claimed a v.claims) s.views w in omega arith)
            (let t = total-snoc (λ (v : SeatView E A). length v.claims) s.views w in omega arith)
            (λ h. each-snoc (λ (v : SeatView E A). v.taken ≡ None) s.views w h refl)
            (λ o. (
              at_longer s.views (w ∷ []) o.by o.view o.at,
              λ j v e apart. ⊎_elim (λ there. o.untaken j v there apart)
                  (λ is. ap (λ (x : SeatView E A). x.taken) (sym is)) (at_snoc s.views w v j e),
            )),
        refl,
      )

  pub deals : (terms : Terms A) (id : ℕ) (v : SeatView E A) → v.taken ≡ None
      → Splits (Accounted history actor_of fixed_of terms) id v (left_of v) (dealt_of v)
  deals terms id v free s kept at =
      let l : SeatView E A = left_of v in
      let r : SeatView E A = dealt_of v in
      let views : List (SeatView E A) = set s.views id l in
      recounted terms s (views ++ r ∷ []) kept
      (each-snoc (λ (u : SeatView E A). AreOwn actor_of u.claims kept.log) views r
      (each-set (λ (u : SeatView E A). AreOwn actor_of u.claims kept.log) s.views id l kept.told
      (own_rest v.claims kept.log (kept.told id v at))) (own_first v.claims kept.log (kept.told id v at)))
      (each-snoc (λ (u : SeatView E A). Knows terms u) views r
      (each-set (λ (u : SeatView E A). Knows terms u) s.views id l kept.known (kept.known id v at))
      (kept.known id v at))
      (λ a. let t = total-set (λ (u : SeatView E A). times_claimed a u.claims) s.views id v l at in let u =
      total-snoc (λ (u : SeatView E A). times_claimed a u.claims) views r in let c =
      times_cut a v.claims in omega arith)
      (let t = total-set (λ (u : SeatView E A). length u.claims) s.views id v l at in let u =
      total-snoc (λ (u : SeatView E A). length u.claims) views r in let c = length_cut v.claims in omega arith)
      (λ h. each-snoc (λ (u : SeatView E A). u.taken ≡ None) views r
      (each-set (λ (u : SeatView E A). u.taken ≡ None) s.views id l h free) refl)
      (λ o. (
        at_longer views (r ∷ []) o.by o.view (set_else s.views id o.by l (not_holder s kept.log o id v free at) ∙ o.at),
        λ j u e off. ⊎_elim (λ there. ⊎_elim (λ t. ap (λ (x : SeatView E A). x.taken) (sym t.1)
            ∙ free) (λ t. o.untaken j u t.1 off) (at_set s.views id j l u there))
            (λ is. ap (λ (x : SeatView E A). x.taken) (sym is)) (at_snoc views r u j e),
      ))
    where
      own_rest : (cs : List (ClaimOf E)) (log : List E) → AreOwn actor_of cs log → AreOwn actor_of (rest_of cs) log
      own_rest [] log h = tt
      own_rest (c ∷ cs) log h = h.1

      own_first : (cs : List (ClaimOf E)) (log : List E) → AreOwn actor_of cs log → AreOwn actor_of (first_of cs) log
      own_first [] log h = tt
      own_first (c ∷ cs) log h = (h.0, tt)

      times_cut : (a : ℕ) (cs : List (ClaimOf E))
          → times_claimed a (rest_of cs) + times_claimed a (first_of cs) ≡ times_claimed a cs
      times_cut a [] = refl
      times_cut a (c ∷ cs) = omega arith

      length_cut : (cs : List (ClaimOf E)) → length (rest_of cs) + length (first_of cs) ≡ length cs
      length_cut [] = refl
      length_cut (c ∷ cs) = omega arith

  pub gathers : (terms : Terms A) (id : ℕ) (v : SeatView E A) (other : ℕ) (w : SeatView E A) → v.taken ≡ None
      → w.taken ≡ None
      → Joins (Accounted history actor_of fixed_of terms) id v other w (gathered v w) no_view
  gathers terms id v other w free free' s kept at apart there =
      let all : SeatView E A = gathered v w in
      let spent : SeatView E A = no_view in
      let views : List (SeatView E A) = set s.views id all in
      let was : get_elem? s.views other ≡ some w = sym (set_else s.views id other all apart) ∙ there in
      recounted terms s (set views other spent) kept
      (each-set (λ (u : SeatView E A). AreOwn actor_of u.claims kept.log) views other spent
      (each-set (λ (u : SeatView E A). AreOwn actor_of u.claims kept.log) s.views id all kept.told
      (own_both actor_of w.claims v.claims kept.log (kept.told other w was) (kept.told id v at))) tt)
      (each-set (λ (u : SeatView E A). Knows terms u) views other spent
      (each-set (λ (u : SeatView E A). Knows terms u) s.views id all kept.known (kept.known id v at))
      (knows_nothing E terms))
      (λ a. let t = total-set (λ (u : SeatView E A). times_claimed a u.claims) s.views id v all at in let u =
      total-set (λ (u : SeatView E A). times_claimed a u.claims) views other w spent there in let c =
      times_claimed-append a w.claims v.claims in omega arith)
      (let t = total-set (λ (u : SeatView E A). length u.claims) s.views id v all at in let u =
      total-set (λ (u : SeatView E A). length u.claims) views other w spent there in let c =
      length-append w.claims v.claims in omega arith)
      (λ h. each-set (λ (u : SeatView E A). u.taken ≡ None) views other spent
      (each-set (λ (u : SeatView E A). u.taken ≡ None) s.views id all h refl) refl)
      (λ o. (
        set_else views other o.by spent (not_holder s kept.log o other w free' was)
            ∙ (set_else s.views id o.by all (not_holder s kept.log o id v free at) ∙ o.at),
        λ j u e off. ⊎_elim (λ t. ap (λ (x : SeatView E A). x.taken) (sym t.1))
            (λ t. ⊎_elim (λ r. ap (λ (x : SeatView E A). x.taken) (sym r.1)) (λ r. o.untaken j u r.1 off)
            (at_set s.views id j all u t.1)) (at_set views other j spent u e),
      ))

  -- once all claims are in one view, the slot has the value, and its history is what the view
  -- claims
  pub closes : (terms : Terms A) (id : ℕ) (v : SeatView E A) (words : List ℕ) (slots : List (Option D))
      (found : Option D) → v.taken ≡ None → terms.actors ≤ length v.claims
      → Final (Seen (Accounted history actor_of fixed_of terms) id v) words slots → get_elem? slots 0 ≡ some found
      → (back : D) × (found ≡ Some back) × (fixed_of back ≡ terms.fixed) × AreOwn actor_of v.claims (history back)
      × ((a : ℕ) → times_claimed a v.claims ≡ times_below terms.actors a)
      × ((a : ℕ) → terms.actors ≤ a → own actor_of a (history back) ≡ [])
  closes terms id v words slots found free whole final at = ⊎_elim is_home (λ o. absurd (is_out o)) kept.stands
    where
      s : St
      s = final.0

      kept : Accounted history actor_of fixed_of terms s
      kept = final.1.0

      there : get_elem? s.views id ≡ some v
      there = final.1.1

      none_else : (j : ℕ) (u : SeatView E A) → j ≢ id → get_elem? s.views j ≡ some u → length u.claims ≡ 0
      none_else j u apart e =
          let blank : SeatView E A = no_view in
          let t = total-set (λ (x : SeatView E A). length x.claims) s.views id v blank there in
          let l = le_total (λ (x : SeatView E A). length x.claims) (set s.views id blank) j u
          (set_else s.views id j blank apart ∙ e) in
          let m = kept.many in
          omega arith

      is_out : IsOut s kept.log → ⊥
      is_out o =
          let none_there = none_claimed o.holder o.view.claims
          (none_else o.by o.view (not_holder s kept.log o id v free there) o.at) in
          let some_there = o.claimed in
          absurd (omega arith)

      all_times : (a : ℕ) → times_claimed a v.claims ≡ times_below terms.actors a
      all_times a =
          sym (total_alone (λ (x : SeatView E A). length x.claims)
          (λ (x : SeatView E A). times_claimed a x.claims) s.views id v
          (λ j u e none_there. none_claimed a u.claims none_there) there (let l =
          le_total (λ (x : SeatView E A). length x.claims) s.views id v there in let m = kept.many in omega arith))
          ∙ kept.each_once a

      is_home : IsHome history fixed_of terms s kept.log
          → (back : D) × (found ≡ Some back) × (fixed_of back ≡ terms.fixed) × AreOwn actor_of v.claims (history back)
          × ((a : ℕ) → times_claimed a v.claims ≡ times_below terms.actors a)
          × ((a : ℕ) → terms.actors ≤ a → own actor_of a (history back) ≡ [])
      is_home h = (
        h.kept,
        some-injective found (Some h.kept) (sym at ∙ final.4 0 (Some h.kept) (ap (λ l. get_elem? l 0) h.homes)),
        h.same,
        subst (AreOwn actor_of v.claims) (sym h.logged) (kept.told id v there),
        all_times,
        λ a over. ap (own actor_of a) h.logged ∙ kept.no_others a over,
      )

  -- what a try told that found the word 0
  pub took_out : (st : Step (Option D)) (before : M) (found : ℕ) (after : M) → found ≡ 0
      → Takes history actor_of fixed_of st before found after → TakesOut history actor_of fixed_of before after
  took_out st before found after is told =
      subst (λ n. MatchBool (n == 0) (TakesOut history actor_of fixed_of before after) (FindsOut before n after)) is
      told

  -- a seat that has the value, with what it brings back
  pub brings : (me new : M) (a : ℕ) (mine log : List E) (fixed : A) (back : D) → me.0.claims ≡ claim a mine ∷ []
      → me.0.taken ≡ Some log → me.0.fixed ≡ Some fixed → me.1 ≡ slots_of me.0.taken
      → new ≡ (me.0, (0, Some back) ∷ rest me.1)
      → new ≡ (seat_view (claim a mine ∷ []) (Some log) (Some fixed) me.0.actors, (0, Some back) ∷ [])
  brings me new a mine log fixed back claims taken known slots is =
      let out : rest me.1 ≡ [] = ap rest slots ∙ ap (λ n. rest (slots_of {D = D} n)) taken in
      is ∙ (λ i. (
        record { claims = claims i; taken = taken i; fixed = known i; actors = me.0.actors },
        (0, Some back) ∷ out i,
      ))

  pub puts : (terms : Terms A) (slots id a actors : ℕ) (mine log es : List E) (fixed : A) (back : D) (new : M)
      → new ≡ (seat_view (claim a mine ∷ []) (Some log) (Some fixed) actors, (0, Some back) ∷ [])
      → history back ≡ log ++ es → fixed_of back ≡ fixed → AreOf actor_of a es
      → Allows (Accounted history actor_of fixed_of terms) slots id new 0 (λ _. 0)
      (λ _. Puts history actor_of (step slots 0 0 0 none) new 0)
  puts terms slots id a actors mine log es fixed back new is grown same of =
      subst (λ (m : M). Allows (Accounted history actor_of fixed_of terms) slots id m 0 (λ _. 0)
      (λ _. Puts history actor_of (step slots 0 0 0 none) m 0)) (sym is)
      (put terms slots id a actors mine log es fixed back grown same of)
