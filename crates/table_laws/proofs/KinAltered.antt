-- Records and parent hosts where a sub's content changes, and where a Grant is minted.
use Rattle.std.proofs.Common.{◌≡◌, ℕ, List, [], ◌⊎◌, Option, Some, None, refl, sym, inr, ⊎_elim, arith, ap, ◌∙◌}
use Rattle.ids.specs.Names.{Grant}
use Rattle.table_laws.specs.Tables.{◌∈◌}
use Rattle.table_laws.specs.Content.{Content, Fill, regrant, rehost}
use Rattle.table_laws.specs.View.{Transfer, Result, Left, Roster, Sub, Works, View}
use Rattle.table_laws.specs.Facts.{Granted, Live, Head, live_at, Cont, Host, by_content, by_result, Path, Resolves, RecordOf, grant_of}
use Rattle.table_laws.specs.Moves.{mint, alter, grant_frame}
use Rattle.table_laws.specs.Guards.{MayAnswer, Begins, Alters}
use Rattle.table_laws.specs.Names.{Names}
use Rattle.table_laws.specs.Leavers.{Leavers}
use Rattle.table_laws.specs.Kin.{Kin}
use Rattle.table_laws.proofs.Lists.{either}
use Rattle.table_laws.proofs.Sent.{unminted}
use Rattle.table_laws.proofs.NamesKept.{names_mint}
use Rattle.table_laws.proofs.NamesReached.{regranted}
use Rattle.table_laws.proofs.OneHead.{one_head}
use Rattle.table_laws.proofs.Heads.{heads_alter, heads_mint}
use Rattle.table_laws.proofs.Conts.{head_cont, live_cont, cont_sent, record_sent, conts_alter, conts_mint, head_before, cont_before}
use Rattle.table_laws.proofs.Paths.{head_at, path_by, live_path, walk, stopped, stopped_path}

-- a live sub's content changes, without new records; that its parent hosts are on the paths is a
-- premise
kin_alter_by : (v : View) (i : ℕ) (g : Grant) (s : Sub) (c : Content) (fill : Option Fill) (results : List Result)
    (gone : List Grant) → Live v i g s → ((n : ℕ) (k : Grant) → c.granted n ≡ Some k → s.content.granted n ≡ Some k)
    → ((k : Grant) → k ∈ gone → RecordOf s.content k) → ((k : Grant) → k ∈ gone → RecordOf c k → ⊥)
    → ((h x : Grant) (d : Content) (n j : ℕ) → Head v h d → d.granted n ≡ Some x
    → Host (alter v i g s c fill results gone) x j → Path v h j)
    → Names (alter v i g s c fill results gone) → Kin v → Kin (alter v i g s c fill results gone)
kin_alter_by v i g s c fill results gone here fewer had lost hosts after k = record {
  one_record = λ h j x d f m l a b p q. let old = cont_before v i g s c here fewer h d a in let also =
      cont_before v i g s c here fewer j f b in
      k.one_record h j x old.content also.content m l old.there also.there (old.records m x p) (also.records l x q);
  on_path = λ h x d m j a e b. let old =
      head_before v i g s c here fewer h d a in hosts h x old.content m j old.there (old.records m x e) b;
  unsettled = λ h x d m p a e. let old = head_before v i g s c here fewer h d a in ⊎_elim
      (λ l. let b = had x l in
      let own : h ≡ g = k.one_record h g x old.content s.content m b.number (head_cont v h old.content old.there)
      (live_cont v i g s here) (old.records m x e) b.is in
      let is : d ≡ c = one_head (alter v i g s c fill results gone) after g d c (rw own at a) now in
      lost x l (record { number = m; is = rw (← is) e }))
      (λ r. k.unsettled h x old.content m r old.there (old.records m x e))
      (either gone v.settled x p);
  left_path = λ r j h x d m e p a. let old =
      head_before v i g s c here fewer x d a in k.left_path r j h x old.content m e p old.there;
}
  where
    now : Head (alter v i g s c fill results gone) g c
    now = live_at i (record { hop = s.hop; content = c }) (record { member = here.member; holds = grind arith }) refl

pub kin_alter : (v : View) (i : ℕ) (g : Grant) (s : Sub) (c : Content) (fill : Option Fill) (results : List Result)
    (gone : List Grant) → Live v i g s → Alters g s.content c results gone → Names (alter v i g s c fill results gone)
    → Kin v → Kin (alter v i g s c fill results gone)
kin_alter v i g s c fill results gone here is after k =
    kin_alter_by v i g s c fill results gone here is.fewer is.had is.lost
    (λ h x d m j a e b. k.on_path h x d m j a e (hosts x j b)) after k
  where
    hosts : (x : Grant) (j : ℕ) → Host (alter v i g s c fill results gone) x j → Host v x j
    hosts x j (by_content d a e) = ⊎_elim
        (λ old. by_content d old e)
        (λ new. by_content s.content (rw new.0 (live_cont v i g s here)) (sym is.host
        ∙ ap (λ (y : Content). y.host) new.1 ∙ e))
        (conts_alter v i g s c x d a)
    hosts x j (by_result y m e f) = ⊎_elim
        (λ l. by_content s.content (rw (sym e ∙ is.result_own y l) (live_cont v i g s here)) (sym (is.result_host y l)
        ∙ f))
        (λ r. by_result y r e f)
        (either results v.results y m)

-- the parent host of a sub is resolved in a roster: its work is with one on the path
pub kin_rename : (v : View) (i : ℕ) (g : Grant) (s : Sub) (roster : Roster) (host : ℕ) → Live v i g s
    → roster ∈ v.rosters → Resolves roster s.content.host host
    → Names (alter v i g s (rehost s.content host) None [] []) → Kin v
    → Kin (alter v i g s (rehost s.content host) None [] [])
kin_rename v i g s roster host here listed way after k =
    kin_alter_by v i g s (rehost s.content host) None [] [] here (λ l x e. e) (λ x l. absurd l)
    (λ x l. absurd l) hosts after k
  where
    hosts : (h x : Grant) (d : Content) (l j : ℕ) → Head v h d → d.granted l ≡ Some x
        → Host (alter v i g s (rehost s.content host) None [] []) x j → Path v h j
    hosts h x d l j a e (by_content f b q) = ⊎_elim
        (λ old. k.on_path h x d l j a e (by_content f old q))
        (λ new. let old = k.on_path h x d l s.content.host a e
        (by_content s.content (rw new.0 (live_cont v i g s here)) refl) in
        let to : host ≡ j = ap (λ (y : Content). y.host) new.1 ∙ q in
        rw to at (walk v k roster listed h d a s.content.host host way old))
        (conts_alter v i g s (rehost s.content host) x f b)
    hosts h x d l j a e (by_result y b q f) = k.on_path h x d l j a e (by_result y b q f)

-- what a Grant's new name was unknown for
module _ (v : View) (i thief seq : ℕ) (c : Content) (works : Works (v.mode i)) (may : MayAnswer v i thief seq)
    (begins : Begins c i) (n : Names v) where
  abbrev minted : View
  minted = mint v i thief seq c

  abbrev name : Grant
  name = (grant_of v i thief seq c).grant

  unnamed : Granted v.transfers name → ⊥
  unnamed a = unminted v i n works a

  names_now : Names minted
  names_now = names_mint v i thief seq c works may begins n

  -- a content with a record is old
  pub record_old : (h x : Grant) (d : Content) (m : ℕ) → Cont minted h d → d.granted m ≡ Some x → Cont v h d
  record_old h x d m a e = ⊎_elim (λ old. old) (λ new. let none : d.granted m ≡ None =
      rw new.1 at (begins.bare m) in cc) (conts_mint v i thief seq c h d a)

  -- an old content's head is old
  pub head_old : (h : Grant) (d : Content) → Cont v h d → Head minted h d → Head v h d
  head_old h d a e = ⊎_elim (λ old. old) (λ is. absurd (unnamed (rw is at (cont_sent v n h d a))))
      (heads_mint v i thief seq c h d e)

  pub hosts_old : (x : Grant) (j : ℕ) → Granted v.transfers x → Host minted x j → Host v x j
  hosts_old x j g (by_content d a e) =
      ⊎_elim (λ old. by_content d old e) (λ new. absurd (unnamed (rw new.0 at g))) (conts_mint v i thief seq c x d a)
  hosts_old x j g (by_result y m e f) = by_result y m e f

  -- the parent host of what was minted is its minter
  pub host_minted : (j : ℕ) → Host minted name j → j ≡ i
  host_minted j (by_content d a e) = ⊎_elim (λ old. absurd (unnamed (cont_sent v n name d old))) (λ new. sym e
      ∙ sym (ap (λ (y : Content). y.host) new.1) ∙ begins.host) (conts_mint v i thief seq c name d a)
  host_minted j (by_result y m e f) = absurd (unnamed (rw e at (n.result_granted y m)))

  path_minted : (g : Grant) (j : ℕ) → Path v g j → Path minted g j
  path_minted g j p = path_by v (mint v i thief seq c) (λ x m. inr m) (λ t. t) (λ h t a. a) p

  -- one that is shown left takes nothing, also not what was just minted
  back_minted : Leavers v → (r : Roster) (j h : ℕ) (g : Grant) (d : Content) → r ∈ v.rosters → r.status j ≡ Left h
      → Path minted g j → Head minted g d → (Path v g j) × (Head v g d)
  back_minted l r j h g d m e p a = ⊎_elim
      (λ old. (
        ⊎_elim
            (λ x. let is : g ≡ name = sym p.grant
            ∙ ap (λ (y : Transfer). y.grant) x in absurd
            (unnamed (rw is at (cont_sent v n g d (head_cont v g d old)))))
            (λ x. stopped_path v p.transfer g j (stopped v l r j h m e) x p.grant p.to)
            p.sent,
        old,
      ))
      (λ is.
      let s = (head_at (mint v i thief seq c) names_now g d a).stands in
      let to : thief ≡ j = ⊎_elim (λ x. sym (ap (λ (y : Transfer). y.to) x)
      ∙ p.to) (λ x. absurd (unnamed (record { transfer = p.transfer; sent = x; grant = p.grant ∙ is }))) p.sent in
      absurd (stopped v l r j h m e (⊎_elim
      (λ x. let at : (head_at (mint v i thief seq c) names_now g d a).at ≡ j =
      sym s.sent.to ∙ ap (λ (y : Transfer). y.to) x ∙ to in rw at at s.takes)
      (λ x. absurd (unnamed (record { transfer = s.sent.transfer; sent = x; grant = s.sent.grant ∙ is })))
      s.sent.sent)))
      (heads_mint v i thief seq c g d a)

  pub kin_mint : Leavers v → Kin v → Kin minted
  kin_mint l k = record {
    one_record = λ h j x d f m o a z p q.
        k.one_record h j x d f m o (record_old h x d m a p) (record_old j x f o z q) p q;
    on_path = λ h x d m j a e z. let old = record_old h x d m (head_cont minted h d a) e in
        path_minted h j (k.on_path h x d m j (head_old h d old a) e (hosts_old x j (record_sent v n h x d m old e) z));
    unsettled = λ h x d m p a e. let old =
        record_old h x d m (head_cont minted h d a) e in k.unsettled h x d m p (head_old h d old a) e;
    left_path = λ r j h g d m e p a. let z =
        back_minted l r j h g d m e p a in path_minted g h (k.left_path r j h g d m e z.0 z.1);
  }

-- a grant that was just minted by i: no content has its record, it isn't settled, and its parent
-- host is i
pub record Fresh (v : View) (i : ℕ) (x : Grant) : Type 0 where
  pub none : (h : Grant) (d : Content) (m : ℕ) → Cont v h d → d.granted m ≡ Some x → ⊥
  pub unsettled : x ∈ v.settled → ⊥
  pub host : (j : ℕ) → Host v x j → j ≡ i

-- frame o of a sub of i becomes its record
kin_regrant : (v : View) (i : ℕ) (g : Grant) (s : Sub) (o : ℕ) (x : Grant) → Live v i g s → Fresh v i x → Names v
    → Kin v → Kin (alter v i g s (regrant s.content o (Some x)) None [] [])
kin_regrant v i g s o x here new n k = record {
  one_record = λ h j y d f m p a b e q. ⊎_elim
      (λ old. ⊎_elim
      (λ too. k.one_record h j y d f m p old too e q)
      (λ z. ⊎_elim (λ is. absurd (new.none h d m old (rw is at e)))
      (λ r. k.one_record h g y d s.content m p old mine e r
      ∙ sym z.0) (regranted s.content o p x y (rw (← z.1) at q)))
      (conts j f b))
      (λ z. ⊎_elim
      (λ too. ⊎_elim (λ is. absurd (new.none j f p too (rw is at q))) (λ r. z.0
      ∙ k.one_record g j y s.content f m p mine too r q) (regranted s.content o m x y (rw (← z.1) at e)))
      (λ u. z.0 ∙ sym u.0)
      (conts j f b))
      (conts h d a);
  on_path = λ h y d m j a e b. ⊎_elim
      (λ old. k.on_path h y d m j old e (hosts y j b))
      (λ z. rw z.0 (⊎_elim
      (λ is. rw (new.host j (rw is at (hosts y j b))) (live_path v n i g s here))
      (λ old. k.on_path g y s.content m j (live_at i s here refl) old (hosts y j b))
      (regranted s.content o m x y (rw (← z.1) at e))))
      (heads_alter v i g s (regrant s.content o (Some x)) h d a);
  unsettled = λ h y d m p a e. ⊎_elim
      (λ old. k.unsettled h y d m p old e)
      (λ z. ⊎_elim (λ is. new.unsettled (rw is at p)) (λ old. k.unsettled g y s.content m p (live_at i s here refl) old)
      (regranted s.content o m x y (rw (← z.1) at e)))
      (heads_alter v i g s (regrant s.content o (Some x)) h d a);
  left_path = λ r j h y d m e p a. ⊎_elim
      (λ old. k.left_path r j h y d m e p old)
      (λ z. k.left_path r j h y s.content m e p (rw z.0 (live_at i s here refl)))
      (heads_alter v i g s (regrant s.content o (Some x)) y d a);
}
  where
    mine : Cont v g s.content
    mine = live_cont v i g s here

    conts : (h : Grant) (d : Content) → Cont (alter v i g s (regrant s.content o (Some x)) None [] []) h d
        → (Cont v h d) ⊎ ((h ≡ g) × (regrant s.content o (Some x) ≡ d))
    conts h d a = conts_alter v i g s (regrant s.content o (Some x)) h d a

    hosts : (y : Grant) (j : ℕ) → Host (alter v i g s (regrant s.content o (Some x)) None [] []) y j → Host v y j
    hosts y j (by_content d a e) = ⊎_elim (λ old. by_content d old e)
        (λ z. by_content s.content (rw z.0 mine) (ap (λ (w : Content). w.host) z.1 ∙ e)) (conts y d a)
    hosts y j (by_result w m e f) = by_result w m e f

pub kin_grant : (v : View) (i : ℕ) (g : Grant) (s : Sub) (m thief seq : ℕ) (c : Content) → Live v i g s
    → MayAnswer v i thief seq → Begins c i → Names v → Leavers v → Kin v → Kin (grant_frame v i g s m thief seq c)
kin_grant v i g s m thief seq c here may begins n l k =
    kin_regrant (mint v i thief seq c) i g s m (grant_of v i thief seq c).grant
    (record { member = here.member; holds = here.holds }) new (names_mint v i thief seq c works may begins n)
    (kin_mint v i thief seq c works may begins n l k)
  where
    works : Works (v.mode i)
    works = rw here.member tt

    new : Fresh (mint v i thief seq c) i (grant_of v i thief seq c).grant
    new = record {
      none = λ h d o a e. unminted v i n works
          (record_sent v n h (grant_of v i thief seq c).grant d o
          (record_old v i thief seq c works may begins n h (grant_of v i thief seq c).grant d o a e) e);
      unsettled = λ p. unminted v i n works (n.settled_granted (grant_of v i thief seq c).grant p);
      host = host_minted v i thief seq c works may begins n;
    }
