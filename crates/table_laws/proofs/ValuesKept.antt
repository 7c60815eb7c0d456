-- Values under each move that is right, and so in each view of a run.
use Rattle.std.proofs.Common.{◌≡◌, ℕ, ℤ, List, [], ◌∷◌, Option, Some, None, refl, sym, inr, ⊎_elim, arith}
use Rattle.ids.specs.Names.{Grant}
use Rattle.table_laws.specs.Tables.{◌∈◌, put}
use Rattle.table_laws.specs.Content.{given, Content, Fill, regrant, rehost}
use Rattle.table_laws.specs.View.{Result, Sub, Gone, Joining, Member, House, View, first_over}
use Rattle.table_laws.specs.Facts.{Live, Cont, held, sent, result_to, ack_of, grant_of}
use Rattle.table_laws.specs.Moves.{start, stop, admit, mint, take, freeze, remove, alter, grant_frame}
use Rattle.table_laws.specs.Guards.{Begins, MaySteal, MayCommit, Alters}
use Rattle.table_laws.specs.Acts.{Act, starts, admits, adopts, fails, goes, marks_lost, opens, grants_root, closes_root, commits, publishes, closes, asks, refuses, grants, takes_grant, hears_refuse, gives_up, freezes, takes_offer, acknowledges, releases, leaves, alters, drops, renames, settles, settles_at_house, ReachedInTables, at_first, by_act}
use Rattle.table_laws.specs.Names.{Names}
use Rattle.table_laws.specs.Fills.{Fills}
use Rattle.table_laws.specs.Homes.{Homes}
use Rattle.table_laws.specs.Rooted.{Rooted}
use Rattle.table_laws.specs.Tasks.{Tasks}
use Rattle.table_laws.specs.Meaning.{Meaning, FitsMeaning, IsSerial}
use Rattle.table_laws.specs.Causes.{Cause}
use Rattle.table_laws.specs.Values.{TablesAgree, FillAgrees, Values}
use Rattle.table_laws.specs.Runs.{Right, Run, at_start, by_right}
use Rattle.table_laws.proofs.Lists.{Within, same, later, either, some_same}
use Rattle.table_laws.proofs.NamesReached.{names_minted, names_reached}
use Rattle.table_laws.proofs.HomesKept.{homes_reached}
use Rattle.table_laws.proofs.RootedKept.{root_minter, rooted_reached}
use Rattle.table_laws.proofs.FillsKept.{filled_or, fills_reached}
use Rattle.table_laws.proofs.TasksKept.{tasks_mint, tasks_kept, tasks_reached}
use Rattle.table_laws.proofs.Conts.{Conts, live_cont, no_cont, conts_new, conts_mode, conts_take, conts_freeze, conts_remove, conts_alter, conts_mint}
use Rattle.table_laws.proofs.Agreement.{fits_same, begun_agrees, caused}

-- a Result that was told tells the value of its task still: its grant was sent, and has one task
old_results : (m : Meaning) (v w : View) → Within v.transfers w.transfers → Names v → Tasks w → Values m v
    → (x : Result) (c : Content) → x ∈ v.results → Cont w x.grant c → x.outcome ≡ m.value c.task.place
old_results m v w more n t a x c told there =
    let granted = n.result_granted x told in
    let u = granted.transfer in
    let one = t.one_task x.grant u.content c (sent u (more u granted.sent) granted.grant refl) there in
    rw (← one) (a.results_agree x u.content told (sent u granted.sent granted.grant refl))

-- where contents were contents, and nothing new is told or filled
values_by : (m : Meaning) (v w : View) → Conts v w → Within v.transfers w.transfers → w.results ≡ v.results
    → w.fills ≡ v.fills → w.stored ≡ v.stored → Names v → Tasks w → Values m v → Values m w
values_by m v w conts more results fills stored n t a = record {
  agree = λ g c there. a.agree g c (conts g c there);
  results_agree = λ x c told there. old_results m v w more n t a x c (rw results at told) there;
  fills_agree = λ x f. a.fills_agree x (rw fills at f);
  stored_agrees = λ o e. a.stored_agrees o (rw stored at e);
}

-- a live sub's content changes to one that agrees
values_alter : (m : Meaning) (v : View) (i : ℕ) (g : Grant) (s : Sub) (c : Content) (fill : Option Fill)
    (results : List Result) (gone : List Grant) → TablesAgree m c → ((x : Fill) → fill ≡ Some x → FillAgrees m x)
    → ((x : Result) → x ∈ results → (x.grant ≡ g) × (c.outcome ≡ Some x.outcome)) → Live v i g s → Names v
    → Tasks (alter v i g s c fill results gone) → Values m v → Values m (alter v i g s c fill results gone)
values_alter m v i g s c fill results gone agrees filling own here n t a = record {
  agree = λ h d there. ⊎_elim (λ old. a.agree h d old) (λ new. rw (← new.1) agrees) (conts_alter v i g s c h d there);
  results_agree = λ x d told there. ⊎_elim
      (λ new. let is = own x new in rw (← (t.one_task g c d now (rw is.0 at there))) (agrees.over x.outcome is.1))
      (λ old. old_results m v w (same v.transfers) n t a x d old there)
      (either results v.results x told);
  fills_agree = λ x f. ⊎_elim (filling x) (a.fills_agree x) (filled_or fill v.fills x f);
  stored_agrees = a.stored_agrees;
}
  where
    w : View
    w = alter v i g s c fill results gone

    now : Cont (alter v i g s c fill results gone) g c
    now = held i (record { hop = s.hop; content = c }) (rw here.member tt) (grind arith) refl

-- a Grant, whose task fits
values_mint : (m : Meaning) (v : View) (i thief seq : ℕ) (c : Content) → Begins c i
    → FitsMeaning m c.task.place c.task.thread (λ j. given c.task.numbers j) → Names v → Tasks (mint v i thief seq c)
    → Values m v → Values m (mint v i thief seq c)
values_mint m v i thief seq c begins fits n t a = record {
  agree = λ h d there. ⊎_elim (λ old. a.agree h d old) (λ new. rw (← new.1) (begun_agrees m c i begins fits))
      (conts_mint v i thief seq c h d there);
  results_agree = λ x d told there. old_results m v (mint v i thief seq c) (λ u p. inr p) n t a x d told there;
  fills_agree = a.fills_agree;
  stored_agrees = a.stored_agrees;
}

-- who is a frame and who a record, and who the parent host is, makes no difference
agrees_regrant : (m : Meaning) (c : Content) (n : ℕ) (k : Option Grant) → TablesAgree m c
    → TablesAgree m (regrant c n k)
agrees_regrant m c n k a = record { root = a.root; fits = a.fits; owes = a.owes; whole = a.whole; over = a.over }

agrees_rehost : (m : Meaning) (c : Content) (host : ℕ) → TablesAgree m c → TablesAgree m (rehost c host)
agrees_rehost m c host a = record { root = a.root; fits = a.fits; owes = a.owes; whole = a.whole; over = a.over }

-- a Result of a record's grant tells the record's value
heard_value : (m : Meaning) (v : View) (i : ℕ) (g : Grant) (s : Sub) → Live v i g s → Names v → Tasks v → Values m v
    → (o : ℕ) (k : Grant) (x : Option ℤ) → s.content.granted o ≡ Some k → result_to k i x ∈ v.results
    → x ≡ m.value (s.content.place o)
heard_value m v i g s here n t a o k x e told =
    let granted = n.sub_granted i g k s o (rw here.member tt) here.holds e in
    let u = granted.transfer in
    let there = sent u granted.sent granted.grant refl in
    let holds = t.record_task g k s.content u.content o (live_cont v i g s here) e there in
    rw holds.place (a.results_agree (result_to k i x) u.content told there)

-- a turn, a Result that came, or a redo
values_changed : (m : Meaning) → IsSerial m
    → (v : View) (i : ℕ) (g : Grant) (s : Sub) (c : Content) (fill : Option Fill) (results : List Result)
    (gone : List Grant) → Cause m v i g s.content c fill → Alters g s.content c results gone → Live v i g s
    → Names v → Fills v → Tasks v → Tasks (alter v i g s c fill results gone) → Values m v
    → Values m (alter v i g s c fill results gone)
values_changed m law v i g s c fill results gone cause is here n f t after a =
    let agrees = caused m law v i g s.content c fill cause is.task (heard_value m v i g s here n t a)
    (f.subs_sound i g s (rw here.member tt) here.holds) (a.agree g s.content (live_cont v i g s here)) in
    values_alter m v i g s c fill results gone agrees.content agrees.filled
    (λ x told. (is.result_own x told, is.result_outcome x told)) here n after a

-- a frame is granted, as the task that it holds, so that the Grant's content agrees as the frame
-- did
values_grant : (m : Meaning) (v : View) (i : ℕ) (g : Grant) (s : Sub) (o thief seq : ℕ) (c : Content) → Live v i g s
    → Begins c i → MaySteal s.content o c.task → Names v → Names (mint v i thief seq c) → Tasks (mint v i thief seq c)
    → Tasks (grant_frame v i g s o thief seq c) → Values m v → Values m (grant_frame v i g s o thief seq c)
values_grant m v i g s o thief seq c here begins frame n names tasks after a =
    let name = (grant_of v i thief seq c).grant in
    let agrees = a.agree g s.content (live_cont v i g s here) in
    let holds = frame.holds in
    let fits = fits_same m (sym holds.place) (sym holds.thread) (λ j. sym (holds.numbers j))
    (agrees.fits o frame.frame.returns frame.frame.there) in
    values_alter m (mint v i thief seq c) i g s (regrant s.content o (Some name)) None [] []
    (agrees_regrant m s.content o (Some name) agrees) (λ x e. cc) (λ x told. absurd told)
    (record { member = here.member; holds = here.holds }) names after
    (values_mint m v i thief seq c begins fits n tasks a)

-- the root's task stands at the root, so its Result tells the job's meaning
values_commit : (m : Meaning) (v : View) (i : ℕ) (k : Grant) (o : Option ℤ) → MayCommit v i k o → Names v → Homes v
    → Rooted v → Tasks v → Values m v → o ≡ m.value []
values_commit m v i k o may n h r t a =
    let granted = n.root_granted k may.recorded in
    let u = granted.transfer in
    let there = sent u granted.sent granted.grant refl in
    let place = t.root_task k u.content there (root_minter v h r k may.recorded) in
    rw (← place) (a.results_agree (result_to k i o) u.content may.result there)

values_act : (m : Meaning) → IsSerial m → {v w : View} (act : Act v w) → Right m act → Names v → Homes v → Rooted v
    → Fills v → Tasks v → Tasks w → Values m v → Values m w
values_act m law {v} (starts i new worker) right n h r f t u a =
    values_by m v (start v i) (conts_new v i Joining) (same v.transfers) refl refl refl n u a
values_act m law {v} (admits i roster joins listed) right n h r f t u a = let admitted =
    values_by m v (admit v i) (conts_mode v i Member (λ w. rw joins tt)) (same v.transfers) refl refl refl n
    (assumption u) a in assumption admitted
values_act m law (adopts i old roster may) right n h r f t u a = assumption a
values_act m law {v} (fails i may) right n h r f t u a = let stopped =
    values_by m v (stop v i) (conts_mode v i Gone (λ w. absurd w)) (same v.transfers) refl refl refl n
    (assumption u) a in assumption stopped
values_act m law {v} (goes i said) right n h r f t u a =
    values_by m v (stop v i) (conts_mode v i Gone (λ w. absurd w)) (same v.transfers) refl refl refl n u a
values_act m law (marks_lost i used worker lost) right n h r f t u a = assumption a
values_act m law {v} (opens i lost roster may) right n h r f t u a = let opened =
    values_by m v (record (start v i) { mode = put v.mode i House; root = None }) (conts_new v i House)
    (same v.transfers) refl refl refl n (assumption u) a in assumption opened
values_act m law {v} (grants_root i thief seq c house new may begins) right n h r f t u a =
    let minted = values_mint m v i thief seq c begins (rw new.place right) n
    (tasks_mint v i thief seq c (rw house tt) may begins (λ e. new.place) n t) a in assumption minted
values_act m law (closes_root k is) right n h r f t u a = assumption a
values_act m law {v} (commits i k o may) right n h r f t u a =
    let stored_agrees : (x : Option ℤ) → Some o ≡ Some x
    → x ≡ m.value [] = λ x e. rw (← (some_same e)) (values_commit m v i k o may n h r t a) in
    assumption (stored_agrees, a)
values_act m law (publishes house roster may) right n h r f t u a = assumption a
values_act m law {v} (closes i house) right n h r f t u a = let stopped =
    values_by m v (record (stop v i) { root = None }) (conts_mode v i Gone (λ w. absurd w))
    (same v.transfers) refl refl refl n (assumption u) a in assumption stopped
values_act m law (asks i victim may) right n h r f t u a = assumption a
values_act m law (refuses i thief seq works may) right n h r f t u a = assumption a
values_act m law {v} (grants i g s o thief seq c here may begins frame) right n h r f t u a =
    let worker = h.worker_name i (rw here.member tt) (λ e. let member = here.member in grind (arith, member, e)) in
    let tasks = tasks_mint v i thief seq c (rw here.member tt) may begins
    (λ house. absurd (grind (arith, worker, house))) n t in
    values_grant m v i g s o thief seq c here begins frame n
    (names_minted v i g s thief seq c here may begins n) tasks u a
values_act m law {v} (takes_grant i x may hop asked) right n h r f t u a =
    values_by m v (take v i x None []) (conts_take v i x None [] may) (same v.transfers) refl refl refl n u a
values_act m law (hears_refuse i x refused thief asked) right n h r f t u a = assumption a
values_act m law (gives_up i why) right n h r f t u a = assumption a
values_act m law {v} (freezes i heir offers may) right n h r f t u a =
    values_by m v (freeze v i heir offers) (conts_freeze v i heir offers may)
    (later offers v.transfers) refl refl refl n u a
values_act m law {v} (takes_offer i x hop may is) right n h r f t u a =
    values_by m v (take v i x (v.pending i) (ack_of x ∷ [])) (conts_take v i x (v.pending i) (ack_of x ∷ []) may)
    (same v.transfers) refl refl refl n u a
values_act m law (acknowledges x there seen works) right n h r f t u a = assumption a
values_act m law {v} (releases i heir g s may) right n h r f t u a =
    values_by m v (remove v i g []) (conts_remove v i g []) (same v.transfers) refl refl refl n u a
values_act m law (leaves i heir roster keeps may) right n h r f t u a = assumption a
values_act m law {v} (alters i g s c fill results gone here change is) right n h r f t u a =
    values_changed m law v i g s c fill results gone right is here n f t u a
values_act m law {v} (drops i g s gone here had why) right n h r f t u a =
    values_by m v (remove v i g gone) (conts_remove v i g gone) (same v.transfers) refl refl refl n u a
values_act m law {v} (renames i g s roster host here listed way) right n h r f t u a =
    values_alter m v i g s (rehost s.content host) None [] []
    (agrees_rehost m s.content host (a.agree g s.content (live_cont v i g s here))) (λ x e. cc)
    (λ x told. absurd told) here n u a
values_act m law (settles i g may) right n h r f t u a = assumption a
values_act m law (settles_at_house i g may) right n h r f t u a = assumption a

pub values_kept : (m : Meaning) → IsSerial m → {v w : View} (act : Act v w) → Right m act → Names v → Homes v → Rooted v
    → Fills v → Tasks v → Values m v → Values m w
values_kept m law act right n h r f t a = values_act m law act right n h r f t (tasks_kept act n h t) a

values_first : (m : Meaning) (epoch : ℕ) (stored : Option (Option ℤ))
    → ((o : Option ℤ) → stored ≡ Some o → o ≡ m.value []) → Values m (first_over epoch stored)
values_first m epoch stored before = record {
  agree = λ g c a. absurd (no_cont epoch stored g c a);
  results_agree = λ x c told. absurd told;
  fills_agree = λ x f. absurd f;
  stored_agrees = before;
}

-- a run is a list of moves
pub run_reached : {m : Meaning} {v : View} → Run m v → ReachedInTables v
run_reached (at_start epoch stored before) = at_first epoch stored
run_reached (by_right run act right) = by_act (run_reached run) act

pub values_run : (m : Meaning) → IsSerial m → {v : View} → Run m v → Values m v
values_run m law (at_start epoch stored before) = values_first m epoch stored before
values_run m law (by_right run act right) =
    let reached = run_reached run in
    values_kept m law act right (names_reached reached) (homes_reached reached) (rooted_reached reached)
    (fills_reached reached) (tasks_reached reached) (values_run m law run)
