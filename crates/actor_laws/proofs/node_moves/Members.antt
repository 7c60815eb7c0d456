-- What a member shows.
use Rattle.std.proofs.Common.{◌≡◌, ℕ, true, List, Option, None, Some, refl, sym, ap, ◌∙◌, arith, Greater}
use Rattle.std.specs.Ordering.{nat_cmp}
use Rattle.ids.specs.Names.{Grant}
use Rattle.ids.specs.Naming.{name_of_grant}
use Rattle.ids.specs.Options.{◌>>=◌}
use Rattle.ids.specs.Members.{is_live, says_live, status_in}
use Rattle.ids.specs.declared.member.Member.{Member as Listed}
use Rattle.ids.specs.declared.member.Status.{Status}
use Rattle.ids.specs.declared.member.Status.TheVariants as member
use Rattle.codec.specs.declared.body.Roster.{Roster}
use Rattle.victim_records.specs.Records.{record_in}
use Rattle.ids.specs.declared.work.Record.{Record}
use Rattle.sub_rules.specs.Content.{Ready, ready_in}
use Rattle.sub_rules.proofs.Sums.{found_name}
use Rattle.steal_protocol.specs.declared.replies.Reply.{Reply}
use Rattle.subcomputation.specs.Subs.{SubOf, name_of_sub, sub_in}
use Rattle.node_state.specs.Node.{NodeOf}
use Rattle.node_state.specs.Posts.{ReadyFrame, ready_at, ready_of_sub}
use Rattle.node_state.specs.declared.parts.State.TheVariants.{Member}
use Rattle.node_state.proofs.Kept.{member_holds}
use Rattle.node_state.proofs.Posting.{same_names}
use Rattle.table_laws.specs.View.{Works, View}
use Rattle.table_laws.specs.View as tables
use Rattle.table_laws.specs.Facts.{Answered, RecordOf}
use Rattle.table_laws.specs.Acts.{ReachedInTables}
use Rattle.table_laws.proofs.NamesReached.{names_reached}
use Rattle.table_laws.proofs.Sent.{unminted}
use Rattle.content_laws.specs.Moved.{next_grant}
use Rattle.content_laws.proofs.Records.{record_shown}
use Rattle.move_laws.specs.Listed.{status_of}
use Rattle.actor_laws.specs.node_moves.Shows.{mode_of, ShowsReply, KeepsRoster, PartsShown, NodeShown}
use Rattle.actor_laws.proofs.node_moves.Held.{HeldAt}

pub record MemberShown (v : View) (n : NodeOf) (r : Roster) : Type 0 where
  pub mode : v.mode n.incarnation ≡ tables.Member
  pub parts : PartsShown v n
  pub roster : KeepsRoster (v.roster n.incarnation) r

pub member_shown : (v : View) (n : NodeOf) (r : Roster) → n.state ≡ Member r → NodeShown v n → MemberShown v n r
member_shown v n r is s =
    let p = s.parts (rw is tt) in
    let kept = p.roster in
    record { mode = s.mode ∙ ap mode_of is; parts = p; roster = rw is at kept }

-- who is shown live is live in the tables
pub live_status : (i : ℕ) (members : List Listed) → is_live i members ≡ true
    → status_of (status_in i members) ≡ tables.Live
live_status i members is = by_status (status_in i members) is
  where
    by_status : (o : Option Status) → says_live o ≡ true → status_of o ≡ tables.Live
    by_status None e = cc
    by_status (Some member.Live) e = refl
    by_status (Some member.Dead) e = cc
    by_status (Some (member.Left heir)) e = cc

-- a request that is newer than the last answer isn't answered
pub unanswered_none : (i thief seq : ℕ) (o : Option tables.Reply) → ShowsReply i thief o None → Answered o seq → ⊥
unanswered_none i thief seq None s a = a
unanswered_none i thief seq (Some y) s a = s

pub unanswered_newer : (i thief seq : ℕ) (o : Option tables.Reply) (r : Reply) → ShowsReply i thief o (Some r)
    → nat_cmp seq r.seq ≡ Greater → Answered o seq → ⊥
unanswered_newer i thief seq None r s newer a = a
unanswered_newer i thief seq (Some y) r s newer a = let e = s.seq in grind (arith, a, e, newer)

-- the grant under which a subcomputation is found is its own
pub own_sub : (g : Grant) (s : SubOf) (subs : List SubOf) → sub_in g subs ≡ Some s → g ≡ s.grant
own_sub g s subs there = same_names g s.grant (found_name name_of_sub (name_of_grant g) s subs there)

-- a ready frame of a member stands in a subcomputation that it holds
pub record ReadyThere (n : NodeOf) (f : ReadyFrame) : Type 0 where
  pub number : ℕ
  pub held : sub_in f.sub.grant n.subs ≡ Some f.sub
  pub ready : ready_in number f.sub.content ≡ Some f.ready

pub ready_there : (n : NodeOf) (r : Roster) (g : Grant) (k : ℕ) (f : ReadyFrame) → n.state ≡ Member r
    → ready_at n g k ≡ Some f → ReadyThere n f
ready_there n r g k f is at = by_sub (sub_in g n.subs) refl
    (ap (λ subs. ready_of_sub k (sub_in g subs)) (sym (member_holds n (rw is tt))) ∙ at)
  where
    by_ready : (s : SubOf) → sub_in g n.subs ≡ Some s → (o : Option Ready) → ready_in k s.content ≡ o
        → (o >>= (λ x. Some (record { sub = s; ready = x }))) ≡ Some f → ReadyThere n f
    by_ready s there None none e = cc
    by_ready s there (Some x) ready e =
        let same : record { sub = s; ready = x } ≡ f = cc in
        rw (← same) (record { number = k; held = rw (own_sub g s n.subs there) at there; ready = ready })

    by_sub : (o : Option SubOf) → sub_in g n.subs ≡ o → ready_of_sub k o ≡ Some f → ReadyThere n f
    by_sub None none e = cc
    by_sub (Some s) there e = by_ready s there (ready_in k s.content) refl e

-- no record has the next grant that a node mints
pub unrecorded : (v : View) (i : ℕ) (g : Grant) (s : SubOf) → ReachedInTables v → Works (v.mode i)
    → HeldAt (v.subs i g) s → record_in (next_grant v i) s.content.records ≡ None
unrecorded v i g s reached up held = by_found (record_in (next_grant v i) s.content.records) refl
  where
    by_found : (o : Option Record) → record_in (next_grant v i) s.content.records ≡ o → o ≡ None
    by_found None none = refl
    by_found (Some r) there =
        let names = names_reached reached in
        let has : RecordOf held.sub.content (next_grant v i) =
        record_shown held.sub.content s.content (next_grant v i) r held.shown.content there in
        absurd (unminted v i names up (names.sub_granted i g (next_grant v i) held.sub has.number up held.is has.is))
