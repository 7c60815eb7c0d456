-- The clearinghouse sends no Offers.
use Rattle.std.proofs.Common.{◌≡◌, ◌+◌, ◌^◌, ◌||◌, ℕ, Bool, true, false, cond, is_some, not, nat_eq, nat_lt, [], ◌∷◌, length, map, Option, None, Some, refl, Ordering, Less, Equal, Greater}
use Rattle.std.specs.List.{list_any}
use Rattle.std.specs.Ordering.{nat_cmp}
use Rattle.ids.specs.Members.{is_live, resolve, status_in}
use Rattle.ids.specs.declared.member.Status.{Status}
use Rattle.ids.specs.declared.member.Status.TheVariants as member
use Rattle.ids.specs.declared.work.Task.{Task}
use Rattle.codec.specs.Table.{PacketOf, is_house}
use Rattle.codec.specs.declared.body.Beat.{Beat}
use Rattle.codec.specs.declared.body.Body.{Body}
use Rattle.codec.specs.declared.body.Body.TheVariants as body
use Rattle.codec.specs.declared.body.Leave.{Leave}
use Rattle.codec.specs.declared.body.Piece.{Piece}
use Rattle.codec.specs.declared.body.Save.{Save}
use Rattle.codec.specs.declared.body.Steal.{Steal}
use Rattle.codec.specs.declared.body.TaskResult.{TaskResult}
use Rattle.serial_meaning.specs.Job.{JobOf}
use Rattle.steal_protocol.specs.Replies.{by_order, by_reply, reply_in}
use Rattle.steal_protocol.specs.declared.replies.Reply.{Reply}
use Rattle.clearinghouse.specs.Calls.{declares_dead, passes}
use Rattle.clearinghouse.specs.Cases as cases
use Rattle.clearinghouse.specs.Cases.{by_status, on_body, on_packet}
use Rattle.clearinghouse.specs.House.{HouseOf, is_root, members_of, name_of}
use Rattle.clearinghouse.specs.Laws.{IsHouse}
use Rattle.clearinghouse.specs.Moves as moves
use Rattle.clearinghouse.specs.Steps as house
use Rattle.clearinghouse.specs.declared.parts.RootGrant.{RootGrant}
use Rattle.table_laws.proofs.Among.{found_among, of_each}
use Rattle.actor_laws.specs.whole_offers.Plain.{ArePlain, IsPlain}
use Rattle.actor_laws.proofs.whole_offers.Rows.{both, none, one}

abbrev pub AnswerIsPlain : house.HouseAnswer → Type 0
AnswerIsPlain house.Ignored = Unit {0}
AnswerIsPlain (house.Refused e) = Unit {0}
AnswerIsPlain (house.Does s) = ArePlain s.sent

by_test : (b : Bool) (x y : house.HouseAnswer) → AnswerIsPlain x → AnswerIsPlain y → AnswerIsPlain (cond b x y)
by_test true x y a c = a
by_test false x y a c = c

by_listed : (s : Option Status) (live gone unlisted : house.HouseAnswer) → AnswerIsPlain live → AnswerIsPlain gone
    → AnswerIsPlain unlisted → AnswerIsPlain (by_status s live gone unlisted)
unfolding by_status
by_listed None live gone unlisted a b c = c
by_listed (Some member.Live) live gone unlisted a b c = a
by_listed (Some member.Dead) live gone unlisted a b c = b
by_listed (Some (member.Left heir)) live gone unlisted a b c = b

in_order : (o : Ordering) (below same above : house.HouseAnswer) → AnswerIsPlain below → AnswerIsPlain same
    → AnswerIsPlain above → AnswerIsPlain (by_order o below same above)
unfolding by_order
in_order Less below same above a b c = a
in_order Equal below same above a b c = b
in_order Greater below same above a b c = c

module _ (job : JobOf) where
  settles_plain : (h : HouseOf) → ArePlain (moves.settles job h).sent
  settles_plain h = by_root h.root
    where
      by_holder : (r : RootGrant) (o : Option ℕ) → ArePlain (moves.settles_to job r o h).sent
      by_holder r None = one _ refl
      by_holder r (Some holder) = none

      by_root : (o : Option RootGrant) → ArePlain (moves.settles_root job o h).sent
      by_root None = none
      by_root (Some r) = by_holder r (resolve (members_of h) r.holder)

  joined_plain : (i : ℕ) (h : HouseOf) → AnswerIsPlain (cases.joined job i h)
  joined_plain i h = by_listed (status_in i (members_of h)) _ _ _ (one _ refl) (one _ refl)
      (by_test (nat_lt (length h.workers) 4096) _ _ (one _ refl) tt)

  served_plain : (b : Steal) (o : Option Task) (h : HouseOf) → AnswerIsPlain (cases.served job b o h)
  served_plain b None h = one _ refl
  served_plain b (Some task) h = by_test (nat_lt (h.minted + 1) (2 ^ 64)) _ _ (one _ refl) tt

  stolen_plain : (b : Steal) (h : HouseOf) → IsHouse h → AnswerIsPlain (cases.stolen job b h)
  stolen_plain b h holds = by_test (is_live b.from (members_of h)) _ _ (by_kept (reply_in b.from h.replies) refl) tt
    where
      by_kept : (x : Option Reply) → reply_in b.from h.replies ≡ x
          → AnswerIsPlain (by_reply x b.seq house.Ignored (λ reply. house.Does (house.sends (reply ∷ []) h))
          (cases.served job b (cases.free_task job h) h))
      by_kept None e = served_plain b (cases.free_task job h) h
      by_kept (Some reply) e = in_order (nat_cmp b.seq reply.seq) _ _ _ tt
          (one reply.packet (of_each (λ (r : Reply). IsPlain r.packet) h.replies holds.short reply
          (found_among _ reply h.replies e))) (served_plain b (cases.free_task job h) h)

  returned_plain : (b : TaskResult) (h : HouseOf) → AnswerIsPlain (cases.returned job b h)
  returned_plain b h = by_test (not (is_root b.grant h.root)) _ _ (one _ refl)
      (by_test (nat_lt (h.sequence + 1) (2 ^ 64)) _ _ (one _ refl) tt)

  left_plain : (b : Leave) (h : HouseOf) → AnswerIsPlain (cases.left job b h)
  left_plain b h =
      let new : HouseOf = moves.says b.from (moves.leaving_status b.from b.heir (members_of h)) h in
      by_listed (status_in b.from (members_of h)) _ _ _
      (both (moves.roster_for job b.from new ∷ []) (moves.settles job new).sent (one _ refl) (settles_plain new))
      (one _ refl) tt

  saved_plain : (b : Save) (h : HouseOf) → AnswerIsPlain (cases.saved b h)
  saved_plain b h =
      by_test (not (is_live b.from (members_of h))
      || (is_some h.outcome || not (cases.may_save (record { place = b.place; value = b.value }) h))) _ _ tt
      (by_test (nat_lt (h.sequence + 1) (2 ^ 64)) _ _ none tt)

  beat_plain : (b : Beat) (h : HouseOf) → AnswerIsPlain (cases.answered_beat job b h)
  beat_plain b h = by_test (nat_lt b.version h.version) _ _ (one _ refl) none

  beats_plain : (to : ℕ) (b : Beat) (h : HouseOf) → AnswerIsPlain (cases.beats job to b h)
  beats_plain to b h =
      by_test (nat_eq to (name_of h)) _ _
      (by_listed (status_in b.from (members_of h)) _ _ _ (beat_plain b (moves.hears b.from h)) (beat_plain b h) tt)
      (by_test (is_house to) _ _ (one _ refl) tt)

  body_plain : (to : ℕ) (b : Body) (h : HouseOf) → IsHouse h → AnswerIsPlain (on_body job to b h)
  unfolding on_body
  body_plain to (body.Join b) h holds = by_test (nat_eq to (2 ^ 63)) _ _ (joined_plain b.from h) tt
  body_plain to (body.Steal b) h holds = by_test (nat_eq to (name_of h)) _ _ (stolen_plain b h holds) tt
  body_plain to (body.Result b) h holds = by_test (nat_eq to (name_of h)) _ _ (returned_plain b h) tt
  body_plain to (body.Leave b) h holds = by_test (nat_eq to (name_of h)) _ _ (left_plain b h) tt
  body_plain to (body.Beat b) h holds = beats_plain to b h
  body_plain to (body.Roster b) h holds = tt
  body_plain to (body.Grant b) h holds = tt
  body_plain to (body.Refuse b) h holds = tt
  body_plain to (body.ResultAck b) h holds = tt
  body_plain to (body.Offer b) h holds = tt
  body_plain to (body.OfferAck b) h holds = tt
  body_plain to (body.Abort b) h holds = tt
  body_plain to (body.Piece b) h holds = tt
  body_plain to (body.Save b) h holds = by_test (nat_eq to (name_of h)) _ _ (saved_plain b h) tt

  pub packet_plain : (p : PacketOf) (h : HouseOf) → IsHouse h → AnswerIsPlain (on_packet job p h)
  unfolding on_packet
  packet_plain p h holds = by_test (nat_eq p.job job.number) _ _ (body_plain p.to p.body h holds) tt

  -- a Piece is ignored
  pub piece_ignored : (p : PacketOf) (b : Piece) (h : HouseOf) → p.body ≡ body.Piece b
      → on_packet job p h ≡ house.Ignored
  unfolding on_packet on_body
  piece_ignored p b h says = rw says (by_job (nat_eq p.job job.number))
    where
      by_job : (x : Bool) → cond x house.Ignored house.Ignored ≡ house.Ignored
      by_job true = refl
      by_job false = refl

  pub passes_plain : (now : ℕ) (h : HouseOf) → ArePlain (passes job now h).sent
  unfolding passes
  passes_plain now h = by_time (nat_lt h.moment now)
    where
      new : HouseOf
      new = record h { moment = now }

      by_lost : (b : Bool) → ArePlain (cond b
          (moves.settles job (moves.with_workers (map (moves.declared_dead h.limit now) h.workers) new))
          (house.sends [] new)).sent
      by_lost true = settles_plain _
      by_lost false = none

      by_time : (b : Bool) → ArePlain (cond b (declares_dead job now h) (house.sends [] h)).sent
      by_time true = by_lost (list_any (moves.is_lost h.limit now) h.workers)
      by_time false = none
