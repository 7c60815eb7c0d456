-- Answers after which a node stands: by a test, by what is there, by a state, by what a roster
-- says, and by an order.
use Rattle.std.proofs.Common.{◌≡◌, ℕ, Bool, true, false, cond, ◌&&◌, List, Option, None, Some, inl, inr, refl, sym, Ordering, Less, Equal, Greater}
use Rattle.ids.specs.Members.{is_live, says_live, status_in}
use Rattle.ids.specs.Names.{Grant}
use Rattle.ids.specs.Naming.{name_of_grant, name_of_record}
use Rattle.ids.specs.declared.member.Member.{Member as Listed}
use Rattle.ids.specs.declared.member.Status.{Status}
use Rattle.ids.specs.declared.member.Status.TheVariants as member
use Rattle.ids.specs.declared.outcome.Outcome.{Outcome}
use Rattle.ids.specs.declared.outcome.Outcome.TheVariants.{Value, TooDeep}
use Rattle.ids.specs.declared.returns.Return.{Return}
use Rattle.ids.specs.declared.returns.Return.TheVariants.{Whole, Local}
use Rattle.ids.specs.declared.work.Frame.{Frame}
use Rattle.ids.specs.declared.work.Record.{Record}
use Rattle.std.specs.Prelude.{ℤ, length, nat_lt}
use Rattle.kind_check.specs.declared.turn.Turn.{Turn}
use Rattle.kind_check.specs.declared.turn.Turn.TheVariants.{Sends, Joins}
use Rattle.frames.specs.Frames.{frame_in, without_frame}
use Rattle.victim_records.specs.Records.{without_record}
use Rattle.codec.specs.declared.body.Roster.{Roster}
use Rattle.agreement_laws.proofs.Finding.{left, put_or_there}
use Rattle.steal_protocol.specs.Replies.{by_order}
use Rattle.sub_rules.specs.Changes.{arrives, closed, ends, filled_in, granted_out, joined, record_of, replaced, turned}
use Rattle.sub_rules.specs.Content.{Ready}
use Rattle.sub_rules.specs.declared.content.Content.{Content}
use Rattle.subcomputation.specs.Subs.{SubOf, name_of_sub, put_sub, without_sub}
use Rattle.node_state.specs.Node.{NodeOf, by_state}
use Rattle.node_state.specs.declared.parts.State.{State}
use Rattle.node_state.specs.declared.parts.State.TheVariants.{Joining, Member, Leaving, Ended}
use Rattle.node_steps.specs.Cases.{by_option, by_status}
use Rattle.node_steps.specs.Steps.{Answer}
use Rattle.actor_laws.specs.standing.Standing.{AllStand, AnswerStands, ContentStands, MemberStands, NodeStands, Stands, StandsAt, is_gone}

-- where it stands
pub at_state : (k : NodeOf) (s t : State) → s ≡ t → StandsAt k t → StandsAt k s
at_state k s t is stands = rw is stands

pub member_after : (k : NodeOf) (r : Roster) → k.state ≡ Member r → MemberStands r.members k → NodeStands k
member_after k r is stands = at_state k k.state (Member r) is stands

pub member_before : (k : NodeOf) (r : Roster) → k.state ≡ Member r → NodeStands k → MemberStands r.members k
member_before k r is stands = at_state k (Member r) k.state (sym is) stands

-- a member that holds something else, and asks the same as one that stands
pub holds : (n : NodeOf) (r : Roster) → MemberStands r.members n → (k : NodeOf) → k.state ≡ Member r
    → AllStand r.members k.subs → k.asker.pending ≡ n.asker.pending → NodeStands k
holds n r stands k at subs same = member_after k r at (record { subs = subs; victim = rw same stands.victim })

pub leaving_after : (k : NodeOf) (r : Roster) (heir : ℕ) → k.state ≡ Leaving r heir → NodeStands k
leaving_after k r heir is = at_state k k.state (Leaving r heir) is tt

-- answers
pub by_test : (b : Bool) (x y : Answer) → (b ≡ true → AnswerStands x) → AnswerStands y → AnswerStands (cond b x y)
by_test true x y a c = a refl
by_test false x y a c = c

pub if_there : {A : Type 0} (o : Option A) (none : Answer) (some : A → Answer) → AnswerStands none
    → ((a : A) → o ≡ Some a → AnswerStands (some a)) → AnswerStands (by_option o none some)
unfolding by_option
if_there None none some x y = x
if_there (Some a) none some x y = y a refl

pub in_state : (s : State) (joining : Answer) (joined : Roster → Answer) (leaving : Roster → ℕ → Answer) (over : Answer)
    → (s ≡ Joining → AnswerStands joining) → ((r : Roster) → s ≡ Member r → AnswerStands (joined r))
    → ((r : Roster) (heir : ℕ) → s ≡ Leaving r heir → AnswerStands (leaving r heir)) → AnswerStands over
    → AnswerStands (by_state s joining joined leaving over)
unfolding by_state
in_state Joining joining joined leaving over a b c d = a refl
in_state (Member r) joining joined leaving over a b c d = b r refl
in_state (Leaving r heir) joining joined leaving over a b c d = c r heir refl
in_state Ended joining joined leaving over a b c d = d

pub by_listed : (s : Option Status) (live gone unlisted : Answer) → AnswerStands live → AnswerStands gone
    → AnswerStands unlisted → AnswerStands (by_status s live gone unlisted)
unfolding by_status
by_listed None live gone unlisted a b c = c
by_listed (Some member.Live) live gone unlisted a b c = a
by_listed (Some member.Dead) live gone unlisted a b c = b
by_listed (Some (member.Left heir)) live gone unlisted a b c = b

pub in_order : (o : Ordering) (below same above : Answer) → AnswerStands below → AnswerStands same → AnswerStands above
    → AnswerStands (by_order o below same above)
unfolding by_order
in_order Less below same above a b c = a
in_order Equal below same above a b c = b
in_order Greater below same above a b c = c

pub and_left : (a b : Bool) → (a && b) ≡ true → a ≡ true
and_left true b e = refl
and_left false b e = cc

pub and_right : (a b : Bool) → (a && b) ≡ true → b ≡ true
and_right true b e = e
and_right false b e = cc

pub first_of : (a b c d : Bool) → (a && b && c && d) ≡ true → a ≡ true
first_of a b c d e = and_left a b (and_left (a && b) c (and_left (a && b && c) d e))

-- who is shown live stands
live_not_gone : (o : Option Status) → says_live o ≡ true → is_gone o ≡ false
live_not_gone None e = cc
live_not_gone (Some member.Live) e = refl
live_not_gone (Some member.Dead) e = cc
live_not_gone (Some (member.Left heir)) e = cc

pub live_stands : (i : ℕ) (members : List Listed) → is_live i members ≡ true → Stands members i
live_stands i members live worker = live_not_gone (status_in i members) live

module _ (members : List Listed) where
  -- what is held
  pub put_stands : (new : SubOf) (subs : List SubOf) → ContentStands members new.content → AllStand members subs
      → AllStand members (put_sub new subs)
  put_stands new subs is all g t there = elim (put_or_there name_of_sub (name_of_grant g) new t subs there) [
    | inl both ↦ rw both.1 is
    | inr both ↦ all g t both.1
  ]

  pub without_stands : (g : Grant) (subs : List SubOf) → AllStand members subs → AllStand members (without_sub g subs)
  without_stands g subs all h t there = all h t (left name_of_sub (name_of_grant h) (name_of_grant g) t subs there).1

  -- a frame is granted to a thief that stands
  pub granted_stands : (g : Grant) (thief : ℕ) (r : Ready) (c : Content) → Stands members thief
      → ContentStands members c → ContentStands members (granted_out g thief r c)
  granted_stands g thief r c stands is = record {
    host = is.host;
    holders =
        λ k x there. elim (put_or_there name_of_record (name_of_grant k) (record_of g thief r) x c.records there) [
          | inl both ↦ rw both.1 stands
          | inr both ↦ is.holders k x both.1
        ];
  }

  -- a change that opens no record
  ends_stands : (o : Outcome) (c : Content) → ContentStands members c → ContentStands members (ends o c).after
  ends_stands o c is = record { host = is.host; holders = λ k x there. cc }

  arrives_stands : (x : Return) (v : ℤ) (c : Content) → ContentStands members c
      → ContentStands members (arrives x v c).after
  arrives_stands Whole v c is = ends_stands (Value v) c is
  arrives_stands (Local n j) v c is = by_frame (frame_in n c.frames)
    where
      by_frame : (o : Option Frame) → ContentStands members (filled_in j v c o).after
      by_frame None = is
      by_frame (Some f) = record { host = is.host; holders = is.holders }

  pub closed_stands : (r : Record) (o : Outcome) (c : Content) → ContentStands members c
      → ContentStands members (closed r o c).after
  closed_stands r o c is =
      let less : ContentStands members (record c { records = without_record r.grant c.records }) =
      record {
        host = is.host;
        holders = λ k x there.
            is.holders k x (left name_of_record (name_of_grant k) (name_of_grant r.grant) x c.records there).1;
      } in
      by_outcome less o
    where
      by_outcome : ContentStands members (record c { records = without_record r.grant c.records }) → (o : Outcome)
          → ContentStands members (closed r o c).after
      by_outcome less (Value v) =
          arrives_stands r.returns v (record c { records = without_record r.grant c.records }) less
      by_outcome less TooDeep = ends_stands TooDeep (record c { records = without_record r.grant c.records }) less

  pub turned_stands : (f : Frame) (t : Turn) (c : Content) → ContentStands members c
      → ContentStands members (turned f t c).after
  turned_stands f (Sends v) c is =
      arrives_stands f.returns v (record c { frames = without_frame f.number c.frames })
      (record { host = is.host; holders = is.holders })
  turned_stands f (Joins t slots) c is = by_room (nat_lt (length f.place) 1024)
    where
      by_room : (b : Bool)
          → ContentStands members (cond b (replaced f.number (joined f t slots c.next) c) (ends TooDeep c)).after
      by_room true = record { host = is.host; holders = is.holders }
      by_room false = ends_stands TooDeep c is
