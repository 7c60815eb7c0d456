-- The root is free once its holder was silent for too long, and who asks for it then is granted it.
use Rattle.std.proofs.Common.{◌≡◌, ◌+◌, ◌-◌, ◌<◌, ◌^◌, ◌||◌, ℕ, Bool, true, false, cond, List, [], ◌∷◌, map, inl, inr, Option, None, Some, refl, sym, ap, subst, ◌∙◌, Greater}
use Rattle.std.specs.Cmp.{nat_cmp_is}
use Rattle.std.specs.List.{list_any}
use Rattle.std.specs.Ordering.{nat_cmp}
use Rattle.std.proofs.lemmas.Bool.{eq-eqb, lt-ltb}
use Rattle.ids.specs.Keyed.{has_key}
use Rattle.ids.specs.Members.{bearer, follow, is_live, resolve, says_live, status_in}
use Rattle.ids.specs.Named.{item_in, name_cmp}
use Rattle.ids.specs.Naming.{name_of_member}
use Rattle.ids.specs.Options.{◌>>=◌}
use Rattle.ids.specs.declared.member.Member.{Member as Listed}
use Rattle.ids.specs.declared.member.Status.{Status}
use Rattle.ids.specs.declared.member.Status.TheVariants as member
use Rattle.ids.specs.declared.work.Task.{Task}
use Rattle.codec.specs.Table.{PacketOf}
use Rattle.codec.specs.declared.body.Body.TheVariants as body
use Rattle.codec.specs.declared.body.Steal.{Steal}
use Rattle.serial_meaning.specs.Job.{JobOf, IsJob}
use Rattle.steal_protocol.specs.Replies.{by_order, by_reply, reply_in}
use Rattle.steal_protocol.specs.declared.replies.Reply.{Reply}
use Rattle.clearinghouse.specs.Calls.{passes}
use Rattle.clearinghouse.specs.Cases.{on_body, on_packet, served, stolen}
use Rattle.clearinghouse.specs.House.{HouseOf, member_of, members_of, name_of, name_of_enlisted}
use Rattle.clearinghouse.specs.Moves as moves
use Rattle.clearinghouse.specs.Steps as house
use Rattle.clearinghouse.specs.declared.parts.Enlisted.{Enlisted}
use Rattle.clearinghouse.specs.declared.parts.RootGrant.{RootGrant}
use Rattle.event_script.specs.declared.event.Event.TheVariants.{AtHouse}
use Rattle.event_script.specs.declared.event.HouseEvent.TheVariants as at_house
use Rattle.table_laws.specs.Tables.{◌∈◌}
use Rattle.table_laws.proofs.Among.{found_among}
use Rattle.table_laws.proofs.Lists.{some_same}
use Rattle.actor_laws.specs.standing.Root.{RootStands}
use Rattle.world_steps.specs.Answers.{StepResult}
use Rattle.world_steps.specs.Steps.{CarriedOut}
use Rattle.world_steps.specs.World.{WorldOf, open_house}
use Rattle.run_laws.specs.Next.{IsNewer, IsPacket, IsRootFree, IsRootGranted, IsSilent, sent_in}
use Rattle.run_laws.proofs.NextHouse.{house_does, moment_does}

-- one of a list that passes a test
either : (a b : Bool) → b ≡ true → (a || b) ≡ true
either true b e = refl
either false b e = e

any_found : {X : Type 0} (test : X → Bool) (x : X) (xs : List X) → x ∈ xs → test x ≡ true → list_any test xs ≡ true
any_found test x [] there e = absurd there
any_found test x (y ∷ ys) (inl same) e = ap (λ b. b || list_any test ys) (sym (ap test same) ∙ e)
any_found test x (y ∷ ys) (inr later) e = either (test y) (list_any test ys) (any_found test x ys later e)

-- what is said of a worker on the list, and once it is lost
abbrev told : Option Listed → Option Status
told o = o >>= λ m. Some m.status

said : (i : ℕ) (ws : List Enlisted) (x : Enlisted) → item_in name_of_enlisted (i, 0) ws ≡ Some x
    → status_in i (map member_of ws) ≡ Some x.status
said i [] x e = cc
said i (w ∷ ws) x e = by_test (λ at. said i ws x at) (has_key name_of_enlisted name_cmp (i, 0) w) e
  where
    by_test : (item_in name_of_enlisted (i, 0) ws ≡ Some x → status_in i (map member_of ws) ≡ Some x.status)
        → (b : Bool) → cond b (Some w) (item_in name_of_enlisted (i, 0) ws) ≡ Some x
        → told (cond b (Some (member_of w)) (item_in name_of_member (i, 0) (map member_of ws))) ≡ Some x.status
    by_test rest true at = ap (λ (y : Enlisted). Some y.status) (some_same at)
    by_test rest false at = rest at

dies : (i limit now : ℕ) (ws : List Enlisted) (x : Enlisted) → item_in name_of_enlisted (i, 0) ws ≡ Some x
    → moves.is_lost limit now x ≡ true → status_in i (map member_of (map (moves.declared_dead limit now) ws))
    ≡ Some member.Dead
dies i limit now [] x e lost = cc
dies i limit now (w ∷ ws) x e lost =
    by_test (λ at. dies i limit now ws x at lost) (has_key name_of_enlisted name_cmp (i, 0) w) e
  where
    by_test : (item_in name_of_enlisted (i, 0) ws ≡ Some x
        → status_in i (map member_of (map (moves.declared_dead limit now) ws)) ≡ Some member.Dead)
        → (b : Bool) → cond b (Some w) (item_in name_of_enlisted (i, 0) ws) ≡ Some x
        → told (cond b (Some (member_of (moves.declared_dead limit now w)))
        (item_in name_of_member (i, 0) (map member_of (map (moves.declared_dead limit now) ws)))) ≡ Some member.Dead
    by_test rest true at =
        let same : w ≡ x = some_same at in
        ap (λ b. Some (cond b member.Dead w.status)) (ap (moves.is_lost limit now) same ∙ lost)
    by_test rest false at = rest at

-- so nobody has the work of a holder that is dead
nobody : (members : List Listed) (i : ℕ) → status_in i members ≡ Some member.Dead → resolve members i ≡ None
unfolding follow
nobody members i dead = rw dead refl

module _ (job : JobOf) where
  moment_frees : (h : HouseOf) (root : RootGrant) (now : ℕ) → RootStands h → h.root ≡ Some root
      → IsSilent h root.holder now → h.moment < now
      → ((passes job now h).after.root ≡ None) × ((passes job now h).after.outcome ≡ h.outcome)
  unfolding passes
  moment_frees h root now stands out silent later =
      let x : Enlisted = silent.enlisted in
      let live : says_live (Some x.status) ≡ true =
      sym (ap says_live (said root.holder h.workers x silent.listed)) ∙ stands root out in
      let lost : moves.is_lost h.limit now x ≡ true = rw (live, lt-ltb h.limit (now - x.heard) silent.long) refl in
      let any : list_any (moves.is_lost h.limit now) h.workers ≡ true =
      any_found (moves.is_lost h.limit now) x h.workers (found_among _ x h.workers silent.listed) lost in
      let dead = dies root.holder h.limit now h.workers x silent.listed lost in
      let none = nobody (map member_of (map (moves.declared_dead h.limit now) h.workers)) root.holder dead in
      rw (lt-ltb h.moment now later, any, out, none) (refl, refl)

  -- a newer request of a live thief, where the root is free
  newer_served : {B : Type 0} (o : Option Reply) (seq : ℕ) → ((reply : Reply) → o ≡ Some reply → reply.seq < seq)
      → (older : B) (again : PacketOf → B) (newer : B) → by_reply o seq older again newer ≡ newer
  unfolding by_order
  newer_served None seq is older again newer = refl
  newer_served (Some reply) seq is older again newer =
      let above : nat_cmp seq reply.seq ≡ Greater = sym (nat_cmp_is seq reply.seq Greater (is reply refl)) in
      rw above refl

  root_served : (ok : IsJob job) (h : HouseOf) (b : Steal) (p : PacketOf) → p.job ≡ job.number → p.to ≡ name_of h
      → p.body ≡ body.Steal b → h.root ≡ None → h.outcome ≡ None → is_live b.from (members_of h) ≡ true → IsNewer b h
      → h.minted + 1 < 2 ^ 64
      → on_packet job p h ≡ house.Does (moves.grants job b
      (record { place = []; thread = ok.takes.thread; numbers = job.input }) h)
  unfolding on_packet on_body
  root_served ok h b p mine here says free none live newer room =
      let new : stolen job b h ≡ served job b (moves.root_task job) h =
      rw (live, free, none) (newer_served (reply_in b.from h.replies) b.seq newer _ _ _) in
      let first : on_packet job p h ≡ stolen job b h =
      rw (eq-eqb p.job job.number mine, says, eq-eqb p.to (name_of h) here) refl in
      first ∙ new ∙ rw (ok.takes.found, lt-ltb (h.minted + 1) (2 ^ 64) room) refl

  pub root_freed : (w : WorldOf) → ((h : HouseOf) → open_house w.house ≡ Some h → RootStands h)
      → (h : HouseOf) (root : RootGrant) (now : ℕ) → open_house w.house ≡ Some h → h.root ≡ Some root
      → IsSilent h root.holder now → h.moment < now → (o : StepResult)
      → CarriedOut job (AtHouse (at_house.Tick now)) w o → IsRootFree h.outcome o.world
  root_freed w stands h root now open_now out silent later o over =
      let end = moment_does job w now h open_now o over in
      let free = moment_frees h root now (stands h open_now) out silent later in
      record {
        house = (passes job now h).after;
        open_now = ap (λ (z : StepResult). open_house z.world.house) end.2;
        same = free.1;
        root = free.0;
      }

  abbrev root_sent : HouseOf → Steal → Task → PacketOf
  root_sent h b task = record {
    job = job.number;
    to = b.from;
    body =
        body.Grant (record {
          seq = b.seq;
          grant = record { minter = name_of h; number = h.minted + 1 };
          task = task;
          saved = h.saved;
        });
  }

  pub root_granted : (ok : IsJob job) (w : WorldOf) (i : ℕ) (h : HouseOf) (b : Steal) → open_house w.house ≡ Some h
      → h.root ≡ None → h.outcome ≡ None → is_live b.from (members_of h) ≡ true → IsNewer b h → h.minted + 1 < 2 ^ 64
      → IsPacket job w i (name_of h) (body.Steal b) → (o : StepResult)
      → CarriedOut job (AtHouse (at_house.Deliver i)) w o → IsRootGranted job b o
  root_granted ok w i h b open_now free none live newer room x o over =
      let first : Task = record { place = []; thread = ok.takes.thread; numbers = job.input } in
      let answer = root_served ok h b x.packet x.job_is x.to_is x.says free none live newer room in
      let end = house_does job w i h (body.Steal b) open_now x _ answer o over in
      record {
        house = (moves.grants job b first h).after;
        open_now = ap (λ (z : StepResult). open_house z.world.house) end.2;
        grant = record { minter = name_of h; number = h.minted + 1 };
        root = refl;
        task = first;
        sent = subst (λ (y : StepResult). root_sent h b first ∈ sent_in y.answer) (sym end.2) (inl refl);
      }
