-- The table of the clearinghouse: each packet that was sent is answered by moves.
use Rattle.std.proofs.Common.{◌≡◌, ◌+◌, ◌^◌, ◌||◌, ℕ, Bool, true, false, cond, not, nat_eq, nat_lt, List, inl, is_some, refl, sym, ◌∙◌, arith}
use Rattle.ids.specs.Members.{is_live}
use Rattle.ids.specs.Names.{house_of}
use Rattle.ids.specs.Ordered.{AreInOrder}
use Rattle.codec.specs.Table.{PacketOf}
use Rattle.codec.specs.declared.body.Body.{Body}
use Rattle.codec.specs.declared.body.Body.TheVariants as body
use Rattle.codec.specs.declared.body.Leave.{Leave}
use Rattle.codec.specs.declared.body.Save.{Save}
use Rattle.saved_values.specs.Saved.{put_saved}
use Rattle.saved_values.specs.declared.value.SavedValue.{SavedValue}
use Rattle.serial_meaning.specs.Job.{JobOf}
use Rattle.clearinghouse.specs.Cases as cases
use Rattle.clearinghouse.specs.House.{HouseOf, members_of, name_of, name_of_enlisted}
use Rattle.clearinghouse.specs.Moves as moves
use Rattle.clearinghouse.specs.Steps as house
use Rattle.clearinghouse.specs.declared.error.HouseError.TheVariants as error
use Rattle.table_laws.specs.View.{View}
use Rattle.table_laws.specs.Runs.{Run}
use Rattle.move_laws.proofs.Others.{all_same}
use Rattle.move_laws.proofs.Sent.{all_kept}
use Rattle.actor_laws.specs.node_moves.Shows.{BodyShown, PacketShown}
use Rattle.actor_laws.specs.house_moves.Shows.{OpenShown}
use Rattle.actor_laws.specs.house_moves.Steps.{HouseAnswerShown, HouseStepShown, tables_meaning}
use Rattle.actor_laws.proofs.house_moves.Hearing.{beats_shown, joined_shown}
use Rattle.actor_laws.proofs.house_moves.Leaving.{left_shown_by}
use Rattle.actor_laws.proofs.house_moves.Returning.{returned_shown}
use Rattle.actor_laws.proofs.house_moves.Stealing.{stolen_shown}

module _ (job : JobOf) (v : View) (run : Run (tables_meaning job) v) (h : HouseOf) (s : OpenShown v h)
    (rising : AreInOrder name_of_enlisted h.workers) where
  -- one that goes to this clearinghouse
  if_own_shown : (to : ℕ) (a : house.HouseAnswer) → (to ≡ name_of h → HouseAnswerShown job v h a)
      → HouseAnswerShown job v h (cases.if_own job to h a)
  if_own_shown to a own = by_name (nat_eq to (name_of h)) refl
    where
      by_name : (b : Bool) → nat_eq to (name_of h) ≡ b → HouseAnswerShown job v h (cond b a house.Ignored)
      by_name false other = tt
      by_name true same = own (grind (arith, same))

  leave_shown : (to : ℕ) (b : Leave) → BodyShown v to (body.Leave b) → to ≡ name_of h
      → HouseAnswerShown job v h (cases.left job b h)
  leave_shown to b told own = left_shown_by job v run h s rising b (let same : told.0 ≡ h.epoch =
      one_name (sym told.1 ∙ own) in let sent = told.2 in rw same at sent)
    where
      one_name : {x y : ℕ} → house_of x ≡ house_of y → x ≡ y
      one_name e = omega (arith, e)

  -- a value is saved, which the tables don't tell
  saves_shown : (saved : List SavedValue) → HouseStepShown job v h (moves.saves saved h)
  saves_shown saved = record {
    view = v;
    run = λ k. k;
    since = λ base k. k;
    keeps = all_kept v;
    others = λ j apart. all_same v j;
    used = refl;
    same_name = refl;
    after = record {
      mode = s.mode;
      roster = s.roster;
      is = s.is;
      shows = s.shows;
      room = s.room;
      minted = s.minted;
      replies = s.replies;
      said = s.said;
      root = s.root;
      stored = s.stored;
      epoch = s.epoch;
      only = s.only;
    };
    sent = λ p m. absurd m;
    transfers = λ t m. inl m;
    fills = refl;
    keeps_transfers = λ k e t m. m;
  }

  saved_shown : (b : Save) → HouseAnswerShown job v h (cases.saved b h)
  saved_shown b = by_may (not (is_live b.from (members_of h)) || (is_some h.outcome || not (cases.may_save x h)))
    where
      x : SavedValue
      x = record { place = b.place; value = b.value }

      by_room : (more : Bool) → HouseAnswerShown job v h
          (cond more (house.Does (moves.saves (put_saved x h.saved) h)) (house.Refused error.Spent))
      by_room true = saves_shown (put_saved x h.saved)
      by_room false = tt

      by_may : (not_so : Bool) → HouseAnswerShown job v h
          (cond not_so house.Ignored (cond (nat_lt (h.sequence + 1) (2 ^ 64))
          (house.Does (moves.saves (put_saved x h.saved) h)) (house.Refused error.Spent)))
      by_may true = tt
      by_may false = by_room (nat_lt (h.sequence + 1) (2 ^ 64))

  body_shown : (to : ℕ) (b : Body) → BodyShown v to b → HouseAnswerShown job v h (cases.on_body job to b h)
  unfolding cases.on_body
  body_shown to (body.Join b) told = by_any (nat_eq to (2 ^ 63))
    where
      by_any : (x : Bool) → HouseAnswerShown job v h (cond x (cases.joined job b.from h) house.Ignored)
      by_any false = tt
      by_any true = joined_shown job v run h s rising b.from told.0 told.1
  body_shown to (body.Steal b) told = if_own_shown to (cases.stolen job b h)
      (λ own. stolen_shown job v run h s b (rw own at told))
  body_shown to (body.Result b) told =
      if_own_shown to (cases.returned job b h) (λ own. returned_shown job v run h s b (rw own at told))
  body_shown to (body.Leave b) told = if_own_shown to (cases.left job b h) (leave_shown to b told)
  body_shown to (body.Beat b) told = beats_shown job v run h s rising to b
  body_shown to (body.Save b) told = if_own_shown to (cases.saved b h) (λ own. saved_shown b)
  body_shown to (body.Roster b) told = tt
  body_shown to (body.Grant b) told = tt
  body_shown to (body.Refuse b) told = tt
  body_shown to (body.ResultAck b) told = tt
  body_shown to (body.Offer b) told = tt
  body_shown to (body.OfferAck b) told = tt
  body_shown to (body.Abort b) told = tt
  body_shown to (body.Piece b) told = tt

  pub packet_shown : (p : PacketOf) → PacketShown v p → HouseAnswerShown job v h (cases.on_packet job p h)
  unfolding cases.on_packet
  packet_shown p told = by_job (nat_eq p.job job.number)
    where
      by_job : (b : Bool) → HouseAnswerShown job v h (cond b (cases.on_body job p.to p.body h) house.Ignored)
      by_job false = tt
      by_job true = body_shown p.to p.body told
