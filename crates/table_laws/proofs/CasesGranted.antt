-- The four cases of a record where a sub changes, a Grant is minted, and a house opens.
use Rattle.std.proofs.Common.{◌≡◌, ℕ, List, [], ◌⊎◌, Option, Some, None, refl, inl, inr, ⊎_elim, arith, ap, ◌∙◌, subst}
use Rattle.ids.specs.Names.{Grant}
use Rattle.table_laws.specs.Tables.{◌∈◌}
use Rattle.table_laws.specs.Content.{Content, Fill, regrant}
use Rattle.table_laws.specs.View.{Transfer, Result, Roster, Sub, House, Works, View}
use Rattle.table_laws.specs.Facts.{Came, Live, Head, live_at, open_at, stolen_by, steal_of, grant_of}
use Rattle.table_laws.specs.Moves.{open_house, mint, alter, grant_frame, grant_root}
use Rattle.table_laws.specs.Guards.{MayOpen, MayAnswer, Begins}
use Rattle.table_laws.specs.Names.{Names}
use Rattle.table_laws.specs.Requests.{Grants, Awaits, Requests}
use Rattle.table_laws.specs.Cases.{alive, awaited, frozen, cut_off, Case, Cases}
use Rattle.table_laws.proofs.Lists.{spot_or, some_same}
use Rattle.table_laws.proofs.Sent.{held_sent, fresh}
use Rattle.table_laws.proofs.NamesReached.{regranted}
use Rattle.table_laws.proofs.Heads.{heads_new, heads_alter, heads_mint}
use Rattle.table_laws.proofs.Conts.{head_cont, record_sent, head_before}
use Rattle.table_laws.proofs.CasesKept.{came_either, held_came}
use Rattle.table_laws.proofs.Paths.{granted_first}

-- a live sub stays where it is
case_alter : (v : View) (i : ℕ) (x : Grant) (s : Sub) (d : Content) → Live v i x s → (g k : Grant) → Case v g k
    → Case (alter v i x s d None [] []) g k
case_alter v i x s d here g k (alive j r a) = ⊎_elim
    (λ both. alive i (record { hop = s.hop; content = d })
    (record { member = here.member; holds = grind (arith, both) }))
    (λ other. alive j r (record { member = a.member; holds = grind (arith, a.holds, other) }))
    (spot_or j i k x)
case_alter v i x s d here g k (awaited t m e o w p) = awaited t m e o w p
case_alter v i x s d here g k (frozen j h r a b y) = frozen j h r a (grind (arith, a, b, here.member)) y
case_alter v i x s d here g k (cut_off j m y) = cut_off j m y

pub cases_alter : (v : View) (i : ℕ) (x : Grant) (s : Sub) (d : Content) (fill : Option Fill) (results : List Result)
    (gone : List Grant) → Live v i x s
    → ((n : ℕ) (k : Grant) → d.granted n ≡ Some k → s.content.granted n ≡ Some k) → Cases v
    → Cases (alter v i x s d fill results gone)
cases_alter v i x s d fill results gone here fewer c = record {
  taken_acked = c.taken_acked;
  passed_acked = c.passed_acked;
  record_case = λ g k e m h f. let b =
      head_before v i x s d here fewer g e h in case_alter v i x s d here g k
      (c.record_case g k b.content m b.there (b.records m k f));
  root_case = λ k e. case_alter v i x s d here k k (c.root_case k e);
}

-- what is minted: its thief waits for it, or somebody is lost
case_mint : (v : View) (i thief seq : ℕ) (d : Content) (g : Grant) → Grants (v.mode i) → MayAnswer v i thief seq
    → Came v.transfers g i ⊎ (i ∈ v.lost → ⊥) → Requests v
    → Case (mint v i thief seq d) g (grant_of v i thief seq d).grant
case_mint v i thief seq d g grants may from q = at (q.unanswered (steal_of thief seq i) may.asked grants may.due)
  where
    at : Awaits v.mode v.pending v.lost (steal_of thief seq i)
        → Case (mint v i thief seq d) g (grant_of v i thief seq d).grant
    at (inl p) = awaited (grant_of v i thief seq d) (inl refl) refl refl p.0 p.1
    at (inr (inl l)) = cut_off thief l (inl
        (record { transfer = grant_of v i thief seq d; sent = inl refl; grant = refl; to = refl }))
    at (inr (inr l)) = ⊎_elim (λ a. cut_off i l
        (inr (record { transfer = a.transfer; sent = inr a.sent; grant = a.grant; to = a.to })))
        (λ never. absurd (never l)) from

case_more : (v : View) (i thief seq : ℕ) (d : Content) (g k : Grant) → Case v g k → Case (mint v i thief seq d) g k
case_more v i thief seq d g k (alive j s a) = alive j s a
case_more v i thief seq d g k (awaited t m e f w p) = awaited t (inr m) e f w p
case_more v i thief seq d g k (frozen j h s a b y) = frozen j h s a b y
case_more v i thief seq d g k (cut_off j m y) = cut_off j m (came_either (λ x z. inr z) y)

-- what was just minted has no records
fresh_head : (v : View) (i thief seq : ℕ) (d : Content) → Works (v.mode i) → Begins d i → Names v
    → (h k : Grant) (e : Content) (m : ℕ) → Head (mint v i thief seq d) h e → h ≡ (grant_of v i thief seq d).grant
    → e.granted m ≡ Some k → ⊥
fresh_head v i thief seq d works begins n h k e m (live_at j r a q) is f = let b =
    held_sent v n j h r (rw a.member tt) a.holds in fresh v i n works b.transfer b.sent (b.grant ∙ is)
fresh_head v i thief seq d works begins n h k e m (open_at t o x q) is f = ⊎_elim
    (λ new. let same : t.content ≡ d = ap (λ (y : Transfer). y.content) new in let one : t.content ≡ e =
    q in let none : d.granted m ≡ None = begins.bare m in let some : e.granted m ≡ Some k = f in cc)
    (λ old. fresh v i n works t old (x ∙ is))
    o.sent

-- frame o of a sub becomes the record of the next Grant
pub cases_grant : (v : View) (i : ℕ) (g : Grant) (s : Sub) (o thief seq : ℕ) (d : Content) → Live v i g s
    → MayAnswer v i thief seq → Begins d i → Names v → Requests v → Cases v → Cases (grant_frame v i g s o thief seq d)
cases_grant v i g s o thief seq d here may begins n q c = record {
  taken_acked = λ t h j. elim [ inl e ↦ λ f. grind (arith, e) | inr m ↦ c.taken_acked t h j m ];
  passed_acked = λ t u h. elim [
    | inl e ↦ λ m f z. grind (arith, e)
    | inr m ↦ elim [ inl e ↦ λ f z y. grind (arith, e) | inr p ↦ c.passed_acked t u h m p ]
  ];
  record_case = λ h k e m a f. ⊎_elim
      (λ old. ⊎_elim
      (λ before. kept h k (case_more v i thief seq d h k (c.record_case h k e m before f)))
      (λ is. absurd (fresh_head v i thief seq d works begins n h k e m old is f))
      (heads_mint v i thief seq d h e old))
      (λ new. rw new.0 (⊎_elim
      (λ is. kept g k (rw is (case_mint v i thief seq d g (inl (rw here.member tt)) may
      (inl (held_came v n i g s works here.holds)) q)))
      (λ old. kept g k (case_more v i thief seq d g k (c.record_case g k s.content m (live_at i s here refl) old)))
      (regranted s.content o m name k (rw (← new.1) at f))))
      (heads_alter (mint v i thief seq d) i g s (regrant s.content o (Some name)) h e a);
  root_case = λ k e. kept k k (case_more v i thief seq d k k (c.root_case k e));
}
  where
    works : Works (v.mode i)
    works = rw here.member tt

    name : Grant
    name = (grant_of v i thief seq d).grant

    kept : (h k : Grant) → Case (mint v i thief seq d) h k → Case (grant_frame v i g s o thief seq d) h k
    kept h k a = case_alter (mint v i thief seq d) i g s (regrant s.content o (Some (grant_of v i thief seq d).grant))
        (record { member = here.member; holds = here.holds }) h k a

-- the root's Grant
pub cases_root : (v : View) (i thief seq : ℕ) (d : Content) → v.mode i ≡ House → MayAnswer v i thief seq
    → (i ∈ v.lost → ⊥) → Begins d i → Names v → Requests v → Cases v → Cases (grant_root v i thief seq d)
cases_root v i thief seq d house may up begins n q c = record {
  taken_acked = λ t h j. elim [ inl e ↦ λ f. grind (arith, e) | inr m ↦ c.taken_acked t h j m ];
  passed_acked = λ t u h. elim [
    | inl e ↦ λ m f z. grind (arith, e)
    | inr m ↦ elim [ inl e ↦ λ f z y. grind (arith, e) | inr p ↦ c.passed_acked t u h m p ]
  ];
  record_case = λ h k e m a f. ⊎_elim
      (λ old. case_more v i thief seq d h k (c.record_case h k e m old f))
      (λ is. absurd (fresh_head v i thief seq d (rw house tt) begins n h k e m a is f))
      (heads_mint v i thief seq d h e a);
  root_case = λ x e. let is : (grant_of v i thief seq d).grant ≡ x = some_same e in
      subst (λ y. Case (grant_root v i thief seq d) y y) is
      (case_mint v i thief seq d (grant_of v i thief seq d).grant (inr house) may (inr up) q);
}

-- to a new house, all who were granted something are lost
pub cases_open : (v : View) (i : ℕ) (lost : List ℕ) (roster : Roster) → MayOpen v i lost roster → Names v → Requests v
    → Cases v → Cases (open_house v i lost roster)
cases_open v i lost roster may n q c = record {
  taken_acked = λ t h j m e f w s. c.taken_acked t h j m e f (grind arith) (grind arith);
  passed_acked = c.passed_acked;
  record_case = λ g x d m h e. let b =
      record_sent v n g x d m (head_cont v g d (heads_new v i House may.new n g d h)) e in
      let z = (granted_first v n x b.transfer.hop b.transfer.to
      (record { transfer = b.transfer; sent = b.sent; grant = b.grant; hop = refl; to = refl })).1 in
      let t = z.transfer in
      cut_off t.to (may.lost_all t.to (n.to_used t z.sent)
      (q.joins_unasked (stolen_by t) (q.grant_asked t z.sent z.hop)))
      (inl (record { transfer = t; sent = z.sent; grant = z.grant; to = refl }));
  root_case = λ x e. cc;
}
