-- Tasks under each move.
use Rattle.std.proofs.Common.{ℤ, ◌≡◌, ℕ, true, false, [], ◌∷◌, ◌⊎◌, Option, Some, None, refl, sym, inl, inr, ⊎_elim, arith, ap, ◌∙◌}
use Rattle.ids.specs.Names.{Grant}
use Rattle.table_laws.specs.Tables.{put}
use Rattle.table_laws.specs.Content.{Task, Content, HoldsTask, SameWork, regrant, rehost}
use Rattle.table_laws.specs.View.{Sub, Gone, Joining, Member, House, Works, View, first_over}
use Rattle.table_laws.specs.Facts.{of_worker, Live, Cont, ack_of, grant_of}
use Rattle.table_laws.specs.Moves.{start, stop, admit, mint, take, freeze, remove, alter, grant_frame}
use Rattle.table_laws.specs.Guards.{MayAnswer, Begins, MaySteal}
use Rattle.table_laws.specs.Acts.{Act, starts, admits, adopts, fails, goes, marks_lost, opens, grants_root, closes_root, commits, publishes, closes, asks, refuses, grants, takes_grant, hears_refuse, gives_up, freezes, takes_offer, acknowledges, releases, leaves, alters, drops, renames, settles, settles_at_house, ReachedInTables, at_first, by_act}
use Rattle.table_laws.specs.Names.{Names}
use Rattle.table_laws.specs.Homes.{Homes}
use Rattle.table_laws.specs.Tasks.{Tasks}
use Rattle.table_laws.proofs.Lists.{same_or, some_same}
use Rattle.table_laws.proofs.Sent.{unminted}
use Rattle.table_laws.proofs.NamesReached.{names_reached}
use Rattle.table_laws.proofs.HomesKept.{homes_reached}
use Rattle.table_laws.proofs.Conts.{Conts, live_cont, no_cont, cont_sent, record_sent, conts_new, conts_mode, conts_take, conts_freeze, conts_remove, conts_alter, conts_mint}
use Rattle.table_laws.proofs.KinAltered.{record_old}

pub same_work : (c : Content) (n : ℕ) → SameWork c c n
same_work c n = record { place = refl; thread = refl; slots = λ j. refl }

-- what holds a task holds it after nothing has changed
pub holds_by : {c d : Content} {n : ℕ} {t : Task} → SameWork c d n → HoldsTask c n t → HoldsTask d n t
holds_by s h = record {
  place = s.place ∙ h.place;
  thread = s.thread ∙ h.thread;
  numbers = λ j. s.slots j ∙ h.numbers j;
}

-- the content before a move from which one after it comes: with its task, and its records, which
-- hold theirs
pub record Stems (v : View) (g : Grant) (d : Content) : Type 0 where
  pub content : Content
  pub there : Cont v g content
  pub task : d.task ≡ content.task
  pub records : (n : ℕ) (k : Grant) → d.granted n ≡ Some k → (content.granted n ≡ Some k) × SameWork content d n

-- a content that was there before
pub stems_same : {v : View} (g : Grant) (d : Content) → Cont v g d → Stems v g d
stems_same g d a = record { content = d; there = a; task = refl; records = λ n k e. (e, same_work d n) }

-- where each content comes from one before
tasks_from : (v w : View) → ((g : Grant) (d : Content) → Cont w g d → Stems v g d)
    → ((k : Grant) → w.root ≡ Some k → w.stored ≡ None) → Tasks v → Tasks w
tasks_from v w stems root t = record {
  one_task = λ g c d a b. let x = stems g c a in let y =
      stems g d b in x.task ∙ t.one_task g x.content y.content x.there y.there ∙ sym y.task;
  record_task = λ g k c d n a e b. let x = stems g c a in let y = stems k d b in let r = x.records n k e in
      rw y.task (holds_by r.1 (t.record_task g k x.content y.content n x.there r.0 y.there));
  root_task = λ g c a house. let x = stems g c a in rw x.task (t.root_task g x.content x.there house);
  root_open = root;
}

tasks_by : (v w : View) → Conts v w → ((k : Grant) → w.root ≡ Some k → w.stored ≡ None) → Tasks v → Tasks w
tasks_by v w conts root t = tasks_from v w (λ g d a. stems_same g d (conts g d a)) root t

-- a live sub's content changes, and keeps its task
stems_alter : (v : View) (i : ℕ) (g : Grant) (s : Sub) (c : Content) → Live v i g s → c.task ≡ s.content.task
    → ((n : ℕ) (k : Grant) → c.granted n ≡ Some k → (s.content.granted n ≡ Some k) × SameWork s.content c n)
    → (h : Grant) (d : Content) → Cont (alter v i g s c None [] []) h d → Stems v h d
stems_alter v i g s c here task keeps h d a = ⊎_elim
    (λ old. stems_same h d old)
    (λ new. rw (← new.1) (record {
      content = s.content;
      there = rw new.0 (live_cont v i g s here);
      task = task;
      records = keeps;
    }))
    (conts_alter v i g s c h d a)

-- a Grant
pub tasks_mint : (v : View) (i thief seq : ℕ) (c : Content) → Works (v.mode i) → MayAnswer v i thief seq → Begins c i
    → (of_worker i ≡ false → c.task.place ≡ []) → Names v → Tasks v → Tasks (mint v i thief seq c)
tasks_mint v i thief seq c works may begins root n t = record {
  one_task = λ h d e a b. ⊎_elim
      (λ old. ⊎_elim (λ also. t.one_task h d e old also) (λ new. absurd (unnamed h d new.0 old))
      (conts_mint v i thief seq c h e b))
      (λ new. ⊎_elim
      (λ old. absurd (unnamed h e new.0 old))
      (λ also. ap (λ (x : Content). x.task) (sym new.1) ∙ ap (λ (x : Content). x.task) also.1)
      (conts_mint v i thief seq c h e b))
      (conts_mint v i thief seq c h d a);
  record_task = λ h k d e m a is b.
      let old = record_old v i thief seq c works may begins n h k d m a is in
      ⊎_elim
      (λ also. t.record_task h k d e m old is also)
      (λ new. absurd (unminted v i n works (rw new.0 at (record_sent v n h k d m old is))))
      (conts_mint v i thief seq c k e b);
  root_task = λ h d a house. ⊎_elim
      (λ old. t.root_task h d old house)
      (λ new. rw (← new.1) (root (rw new.0 at house)))
      (conts_mint v i thief seq c h d a);
  root_open = t.root_open;
}
  where
    unnamed : (h : Grant) (d : Content) → h ≡ (grant_of v i thief seq c).grant → Cont v h d → ⊥
    unnamed h d is a = unminted v i n works (rw is at (cont_sent v n h d a))

-- the record of a number after a grant of frame n: the new one, or an earlier one
regranted_at : (c : Content) (n m : ℕ) (new k : Grant) → (regrant c n (Some new)).granted m ≡ Some k
    → ((m ≡ n) × (k ≡ new)) ⊎ (c.granted m ≡ Some k)
regranted_at c n m new k e = ⊎_elim
    (λ (is : m ≡ n). let two : Some new ≡ Some k = grind (arith, e) in inl (is, sym (some_same two)))
    (λ other. inr (grind (arith, e)))
    (same_or m n)

-- it holds it also where some frame is a record now, or the other way round
holds_regrant : (c : Content) (o : ℕ) (x : Option Grant) {n : ℕ} {t : Task} → HoldsTask c n t
    → HoldsTask (regrant c o x) n t
holds_regrant c o x h = record { place = h.place; thread = h.thread; numbers = h.numbers }

-- the same without its records
record Stem (v : View) (h : Grant) (d : Content) : Type 0 where
  content : Content
  there : Cont v h content
  task : d.task ≡ content.task

-- a frame is granted, as the task that it holds
tasks_grant : (v : View) (i : ℕ) (g : Grant) (s : Sub) (o thief seq : ℕ) (c : Content) → Live v i g s
    → MayAnswer v i thief seq → Begins c i → MaySteal s.content o c.task → of_worker i ≡ true → Names v → Tasks v
    → Tasks (grant_frame v i g s o thief seq c)
tasks_grant v i g s o thief seq c here may begins frame worker n t = record {
  one_task = λ h d e a b. let x = stem h d a in let y =
      stem h e b in x.task ∙ minted.one_task h x.content y.content x.there y.there ∙ sym y.task;
  record_task = λ h k d e m a is b. let y = stem k e b in rw y.task (⊎_elim
      (λ old. minted.record_task h k d y.content m old is y.there)
      (λ new. rw (← new.1) (holds_regrant s.content o (Some name)
      (of_live k m y.content y.there (regranted_at s.content o m name k (rw (← new.1) at is)))))
      (conts_alter u i g s (regrant s.content o (Some name)) h d a));
  root_task = λ h d a house. let x = stem h d a in rw x.task (minted.root_task h x.content x.there house);
  root_open = t.root_open;
}
  where
    u : View
    u = mint v i thief seq c

    name : Grant
    name = (grant_of v i thief seq c).grant

    works : Works (v.mode i)
    works = rw here.member tt

    minted : Tasks (mint v i thief seq c)
    minted = tasks_mint v i thief seq c works may begins (λ house. absurd (grind (arith, worker, house))) n t

    now_here : Live (mint v i thief seq c) i g s
    now_here = record { member = here.member; holds = here.holds }

    stem : (h : Grant) (d : Content) → Cont (grant_frame v i g s o thief seq c) h d → Stem (mint v i thief seq c) h d
    stem h d a = ⊎_elim
        (λ old. record { content = d; there = old; task = refl })
        (λ new. record {
          content = s.content;
          there = rw new.0 (live_cont u i g s now_here);
          task = sym (ap (λ (x : Content). x.task) new.1);
        })
        (conts_alter u i g s (regrant s.content o (Some name)) h d a)

    of_live : (k : Grant) (m : ℕ) (e : Content) → Cont (mint v i thief seq c) k e
        → ((m ≡ o) × (k ≡ name)) ⊎ (s.content.granted m ≡ Some k) → HoldsTask s.content m e.task
    of_live k m e b (inl is) = ⊎_elim
        (λ old. absurd (unminted v i n works (rw is.1 at (cont_sent v n k e old))))
        (λ new. rw (is.0, ← new.1) frame.holds)
        (conts_mint v i thief seq c k e b)
    of_live k m e b (inr old) = minted.record_task g k s.content e m (live_cont u i g s now_here) old b

pub tasks_kept : {v w : View} → Act v w → Names v → Homes v → Tasks v → Tasks w
tasks_kept {v} (starts i new worker) n h t = let started =
    tasks_by v (record (start v i) { mode = put v.mode i Joining })
    (conts_new v i Joining) t.root_open t in assumption started
tasks_kept {v} (admits i roster joins listed) n h t = let admitted =
    tasks_by v (admit v i) (conts_mode v i Member (λ w. rw joins tt)) t.root_open t in assumption admitted
tasks_kept (adopts i old roster may) n h t = assumption t
tasks_kept {v} (fails i may) n h t = let stopped =
    tasks_by v (stop v i) (conts_mode v i Gone (λ w. absurd w)) t.root_open t in assumption stopped
tasks_kept {v} (goes i said) n h t = tasks_by v (stop v i) (conts_mode v i Gone (λ w. absurd w)) t.root_open t
tasks_kept (marks_lost i used worker lost) n h t = assumption t
tasks_kept {v} (opens i lost roster may) n h t = let opened =
    tasks_by v (record (start v i) { mode = put v.mode i House; root = None }) (conts_new v i House)
    (λ k e. cc) t in assumption opened
tasks_kept {v} (grants_root i thief seq c house new may begins) n h t =
    let minted = tasks_mint v i thief seq c (rw house tt) may begins (λ e. new.place) n t in
    let root_open : (k : Grant) → Some (grant_of v i thief seq c).grant ≡ Some k
    → v.stored ≡ None = λ k e. new.unstored in
    assumption (root_open, minted)
tasks_kept {v} (closes_root k is) n h t = let root_open : (j : Grant) → None ≡ Some j
    → v.stored ≡ None = λ j e. cc in assumption (root_open, t)
tasks_kept {v} (commits i k o may) n h t = let root_open : (j : Grant) → None ≡ Some j
    → Some o ≡ None = λ j e. cc in assumption (root_open, t)
tasks_kept (publishes house roster may) n h t = assumption t
tasks_kept {v} (closes i house) n h t = let stopped =
    tasks_by v (record (stop v i) { root = None }) (conts_mode v i Gone (λ w. absurd w))
    (λ k e. cc) t in assumption stopped
tasks_kept (asks i victim may) n h t = assumption t
tasks_kept (refuses i thief seq works may) n h t = assumption t
tasks_kept {v} (grants i g s m thief seq c here may begins frame) n h t =
    tasks_grant v i g s m thief seq c here may begins frame
    (h.worker_name i (rw here.member tt) (λ e. let member = here.member in grind (arith, member, e))) n t
tasks_kept {v} (takes_grant i u may hop asked) n h t =
    tasks_by v (take v i u None []) (conts_take v i u None [] may) t.root_open t
tasks_kept (hears_refuse i x refused thief asked) n h t = assumption t
tasks_kept (gives_up i why) n h t = assumption t
tasks_kept {v} (freezes i heir offers may) n h t =
    tasks_by v (freeze v i heir offers) (conts_freeze v i heir offers may) t.root_open t
tasks_kept {v} (takes_offer i u hop may is) n h t =
    tasks_by v (take v i u (v.pending i) (ack_of u ∷ []))
    (conts_take v i u (v.pending i) (ack_of u ∷ []) may) t.root_open t
tasks_kept (acknowledges u there seen works) n h t = assumption t
tasks_kept {v} (releases i heir g s may) n h t = tasks_by v (remove v i g []) (conts_remove v i g []) t.root_open t
tasks_kept (leaves i heir roster keeps may) n h t = assumption t
tasks_kept {v} (alters i g s c fill results gone here change is) n h t =
    tasks_from v (alter v i g s c fill results gone)
    (stems_alter v i g s c here is.task (λ m k e. (is.fewer m k e, is.keeps m k e))) t.root_open t
tasks_kept {v} (drops i g s gone here had why) n h t =
    tasks_by v (remove v i g gone) (conts_remove v i g gone) t.root_open t
tasks_kept {v} (renames i g s roster host here listed way) n h t =
    tasks_from v (alter v i g s (rehost s.content host) None [] [])
    (stems_alter v i g s (rehost s.content host) here refl
    (λ m k e. (e, record { place = refl; thread = refl; slots = λ j. refl }))) t.root_open t
tasks_kept (settles i g may) n h t = assumption t
tasks_kept (settles_at_house i g may) n h t = assumption t

tasks_first : (epoch : ℕ) (stored : Option (Option ℤ)) → Tasks (first_over epoch stored)
tasks_first epoch stored = record {
  one_task = λ g c d a. absurd (no_cont epoch stored g c a);
  record_task = λ g k c d n a. absurd (no_cont epoch stored g c a);
  root_task = λ g c a. absurd (no_cont epoch stored g c a);
  root_open = λ k e. cc;
}

pub tasks_reached : {v : View} → ReachedInTables v → Tasks v
tasks_reached (at_first epoch stored) = tasks_first epoch stored
tasks_reached (by_act r act) = tasks_kept act (names_reached r) (homes_reached r) (tasks_reached r)
