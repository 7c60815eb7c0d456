-- What an Offer that comes to a member leads to.
use Rattle.std.proofs.Common.{◌≡◌, ℕ, Bool, true, false, not, ◌&&◌, nat_eq, List, [], ◌∷◌, ◌++◌, map, cond, Option, Some, None, IfSome, is_some, if◌then◌else◌, Ordering, Less, Equal, Greater, refl, sym, ap, ◌∙◌}
use Rattle.std.proofs.lemmas.Bool.{eq-eqb}
use Rattle.std.specs.List.{list_all}
use Rattle.std.specs.Ordering.{is_eq}
use Rattle.ids.specs.Named.{name_cmp}
use Rattle.ids.specs.Names.{Grant}
use Rattle.ids.specs.Naming.{name_of_grant, name_of_record}
use Rattle.ids.specs.declared.member.Member.{Member as MemberOf}
use Rattle.ids.specs.declared.outcome.Progress.{Progress}
use Rattle.ids.specs.declared.outcome.Progress.TheVariants.{Active, Finished}
use Rattle.ids.specs.declared.work.Record.{Record}
use Rattle.ids.proofs.NameOrder.{exact_names}
use Rattle.codec.specs.declared.body.Body.TheVariants as body
use Rattle.codec.specs.declared.body.Offer.{Offer}
use Rattle.codec.specs.declared.body.Roster.{Roster}
use Rattle.departure.specs.Offers.{accepted, offered}
use Rattle.task_tree.specs.declared.tree.Program.{Program}
use Rattle.victim_records.specs.Records.{record_in}
use Rattle.recovery.specs.Told.{AreForeign, ComesTold, all_in, all_put, beside, those}
use Rattle.recovery.specs.Plans.{stop_of}
use Rattle.recovery.specs.declared.plan.Stopped.{Stopped}
use Rattle.serial_meaning.specs.Job.{JobOf}
use Rattle.sub_rules.specs.Debts.{IsOwed, IsSound}
use Rattle.sub_rules.specs.declared.change.Readied.{Readied}
use Rattle.sub_rules.specs.declared.content.Content.{Content}
use Rattle.subcomputation.specs.Fitting.{Fits, content_fits, frame_fits, is_foreign, is_linked, progress_fits, record_fits, task_fits}
use Rattle.subcomputation.specs.Recovering.{Recovery, recovered}
use Rattle.subcomputation.specs.Subs.{SubOf, host_in, put_sub, ready_frames, sub_in}
use Rattle.subcomputation.specs.Told.{HasNoOthers}
use Rattle.node_state.specs.Node.{NodeOf, by_state, hop_in, put_seen}
use Rattle.node_state.specs.declared.parts.State.TheVariants.{Member}
use Rattle.node_state.specs.Parts.{HasNoNewRecord, MayCome, PartsOf, put_some, ready_of, with_posts}
use Rattle.node_state.specs.Posts.{posts_after}
use Rattle.node_steps.proofs.Keeping.{FitsIf}
use Rattle.node_packets.proofs.Stopping.{all_stops}
use Rattle.node_steps.specs.Meeting.{NodeOn, comes}
use Rattle.node_steps.specs.Cases.{Candidate, is_above, on_body}
use Rattle.node_steps.specs.Moves.{aborts, acknowledges, stops}
use Rattle.node_steps.specs.Steps.{Does}
use Rattle.node_packets.proofs.Returning.{behind}

-- records that are foreign here
foreign_by : (i : ℕ) (subs : List SubOf) (c : Content) (p : Progress) → IsOwed p c.frames c.records
    → progress_fits i subs c p ≡ true → list_all (is_foreign i subs) c.records ≡ true
foreign_by i subs c Active owed fits = by_link (is_linked c) fits
  where
    by_link : (b : Bool) → (b && list_all (is_foreign i subs) c.records) ≡ true
        → list_all (is_foreign i subs) c.records ≡ true
    by_link true is = is
    by_link false is = cc
foreign_by i subs c (Finished o) owed fits = rw owed.1 refl

pub foreign_records : (i : ℕ) (subs : List SubOf) (c : Content) → IsSound c → progress_fits i subs c c.progress ≡ true
    → list_all (is_foreign i subs) c.records ≡ true
foreign_records i subs c sound fits = foreign_by i subs c c.progress sound.owed fits

not_hosted : (b : Bool) (o : Option SubOf) → (b && not (is_some o)) ≡ true → o ≡ None
not_hosted b None is = refl
not_hosted true (Some s) is = cc
not_hosted false (Some s) is = cc

not_minted : (a b : Bool) → (not a && b) ≡ true → a ≡ false
not_minted true b is = cc
not_minted false b is = refl

first_of : (a b : Bool) → (a && b) ≡ true → a ≡ true
first_of true b is = refl
first_of false b is = cc

second_of : (a b : Bool) → (a && b) ≡ true → b ≡ true
second_of true b is = is
second_of false b is = cc

pub all_foreign : (i : ℕ) (subs : List SubOf) (records : List Record) → list_all (is_foreign i subs) records ≡ true
    → AreForeign records subs
all_foreign i subs [] is = tt
all_foreign i subs (r ∷ rs) is = (
  not_hosted (not (nat_eq r.grant.minter i)) (host_in r.grant subs)
      (first_of (is_foreign i subs r) (list_all (is_foreign i subs) rs) is),
  all_foreign i subs rs (second_of (is_foreign i subs r) (list_all (is_foreign i subs) rs) is),
)

pub none_minted : (i : ℕ) (subs : List SubOf) (h : Grant) (records : List Record)
    → list_all (is_foreign i subs) records ≡ true → h.minter ≡ i → record_in h records ≡ None
none_minted i subs h [] is minted = refl
none_minted i subs h (r ∷ rs) is minted =
    by_order (none_minted i subs h rs (second_of (is_foreign i subs r) (list_all (is_foreign i subs) rs) is) minted)
    (name_cmp (name_of_grant h) (name_of_record r)) refl
  where
    other : nat_eq r.grant.minter i ≡ false
    other = not_minted (nat_eq r.grant.minter i) (not (is_some (host_in r.grant subs)))
        (first_of (is_foreign i subs r) (list_all (is_foreign i subs) rs) is)

    by_order : record_in h rs ≡ None → (o : Ordering) → name_cmp (name_of_grant h) (name_of_record r) ≡ o
        → cond (is_eq o) (Some r) (record_in h rs) ≡ None
    by_order rest Less at = rest
    by_order rest Equal at =
        let same : r.grant.minter ≡ i = sym
        (ap (λ (n : ℕ × ℕ). n.0) (exact_names (name_of_grant h) (name_of_record r) at)) ∙ minted in
        let equal : nat_eq r.grant.minter i ≡ true = eq-eqb r.grant.minter i same in
        let wrong : true ≡ false = sym equal ∙ other in
        cc
    by_order rest Greater at = rest

-- what comes of it may come
pub may_come : (n : NodeOf) (s : SubOf) (told : List Readied) (o : Option SubOf) → IfSome o (λ t. t.grant ≡ s.grant)
    → IfSome o (λ t. ComesTold t told) → IfSome o (λ t. HasNoOthers s.content.records t.content.records)
    → HasNoNewRecord n s → MayCome n s.grant told o
may_come n s told None named ready records none = tt
may_come n s told (Some t) named ready records none = (named, ready, λ h fresh. records h (none h fresh))

pub fits_if : (p : Program) (o : Option SubOf) → IfSome o (λ t. Fits p t.content) → FitsIf p o
fits_if p None fits = tt
fits_if p (Some t) fits = fits

put_those : (o : Option SubOf) (subs : List SubOf) → all_put (those o) subs ≡ put_some o subs
put_those None subs = refl
put_those (Some s) subs = refl

-- a node with what came, seen whole
abbrev pub on : JobOf → PartsOf → NodeOn
on job p = record { job = job; node = p.node; posts = p.posts }

abbrev pub Beside : Type 0
Beside = (members : List MemberOf) (s : SubOf) (subs : List SubOf) → sub_in s.grant subs ≡ None
    → AreForeign s.content.records subs
    → recovered members (s.grant ∷ []) (put_sub s subs) ≡ beside (recovered members (s.grant ∷ []) (s ∷ [])) subs

abbrev pub came_to : SubOf → Option SubOf → NodeOf → NodeOf
came_to s o n = record n { subs = put_some o n.subs; seen = put_seen s.grant s.hop n.seen }

module _ (r : Roster) (s : SubOf) (o : Option SubOf) (told : List Readied) where
  abbrev pub alone : Recovery
  alone = recovered r.members (s.grant ∷ []) (s ∷ [])

  pub sent_of : (job : JobOf) (n : NodeOf) (stopped : List Stopped) (law : Beside) → sub_in s.grant n.subs ≡ None
      → AreForeign s.content.records n.subs → stopped ≡ map stop_of alone.stopped
      → map (stops job) stopped ≡ (comes job r s n).sent
  sent_of job n stopped law absent foreign is =
      ap (map (stops job)) is ∙ (all_stops job alone.stopped
      ∙ ap (λ (x : Recovery). aborts job x.stopped) (sym (law r.members s n.subs absent foreign)))

  pub came_view : (v w : NodeOn) (p : PartsOf) (law : Beside) → v ≡ w
      → p ≡ with_posts (came_to s o v.node) (ready_of s.grant told) v.posts → sub_in s.grant w.node.subs ≡ None
      → AreForeign s.content.records w.node.subs → those o ≡ alone.subs
      → all_in s.grant told ≡ ready_frames s ++ alone.again → on v.job p
      ≡ record w {
        node = (comes w.job r s w.node).after;
        posts = posts_after (comes w.job r s w.node).after (comes w.job r s w.node).ready w.posts;
      }
  came_view v w p law same is absent foreign left ready =
      ap (on v.job) is
      ∙ (ap (λ (x : NodeOn). on x.job (with_posts (came_to s o x.node) (ready_of s.grant told) x.posts)) same
      ∙ (ap (λ subs. on w.job (with_posts (record w.node { subs = subs; seen = put_seen s.grant s.hop w.node.seen })
      (ready_of s.grant told) w.posts)) (sym (put_those o w.node.subs)
      ∙ ap (λ these. all_put these w.node.subs) left)
      ∙ (ap (λ became. on w.job (with_posts
      (record w.node {
        subs = all_put alone.subs w.node.subs;
        seen = put_seen s.grant s.hop w.node.seen;
      }) became w.posts)) ready
      ∙ ap (λ (x : Recovery). on w.job (with_posts
      (record w.node { subs = x.subs; seen = put_seen s.grant s.hop w.node.seen })
      (ready_frames s ++ x.again) w.posts)) (sym (law r.members s w.node.subs absent foreign)))))

-- an Offer that is taken
pub record IsTaken (p : Program) (i : ℕ) (subs : List SubOf) (o : Offer) (s : SubOf) : Type 0 where
  pub same : s ≡ offered o
  pub fits : content_fits p i subs (offered o).content ≡ true

pub taken_by : (p : Program) (i : ℕ) (subs : List SubOf) (o : Offer) (s : SubOf) → accepted p i subs o ≡ Some s
    → IsTaken p i subs o s
taken_by p i subs o s is = by_fit (content_fits p i subs (offered o).content) refl is
  where
    by_fit : (b : Bool) → content_fits p i subs (offered o).content ≡ b
        → (if b then Some (offered o) else None) ≡ Some s → IsTaken p i subs o s
    by_fit true fits at = let same : offered o ≡ s = cc in record { same = sym same; fits = fits }
    by_fit false fits at = cc

pub fits_here : (p : Program) (i : ℕ) (subs : List SubOf) (o : Offer) (s : SubOf) → IsTaken p i subs o s
    → progress_fits i subs s.content s.content.progress ≡ true
fits_here p i subs o s taken =
    rw taken.same (second_of (task_fits p (offered o).content.task && list_all (frame_fits p) (offered o).content.frames
    && list_all (record_fits p) (offered o).content.records)
    (progress_fits i subs (offered o).content (offered o).content.progress) taken.fits)

pub offer_taken : (job : JobOf) (choice : Option Candidate) (o : Offer) (n : NodeOf) (r : Roster) → n.state ≡ Member r
    → is_above o.hop (hop_in o.grant n.seen) ≡ true → sub_in o.grant n.subs ≡ None
    → content_fits job.program n.incarnation n.subs (offered o).content ≡ true
    → on_body job choice (body.Offer o) n ≡ Does (behind (acknowledges job o n) (comes job r (offered o) n))
unfolding on_body by_state
offer_taken job choice o n r at above absent fits = rw at (rw above (rw absent (rw fits refl)))

pub none_there : (o : Option SubOf) → is_some o ≡ false → o ≡ None
none_there None is = refl
none_there (Some s) is = cc
