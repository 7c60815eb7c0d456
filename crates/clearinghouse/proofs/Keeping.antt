-- What holds of every call: the cases of the table, one by one.
use Rattle.std.proofs.Common.{◌≡◌, inl, inr, ◌+◌, ◌<◌, ◌≤◌, ◌^◌, ℕ, Bool, true, false, not, ◌||◌, nat_eq, nat_lt, List, [], ◌∷◌, length, map, cond, Option, Some, None, is_some, IsTrue, Ordering, Less, Equal, Greater, refl, sym, ap, ◌∙◌, arith}
use Rattle.std.proofs.lemmas.Bool.{eq-eqb, le-ltb, lt-ltb, ltb-false, ltb-true}
use Rattle.std.specs.List.{AllByRecursion, list_any}
use Rattle.std.specs.List.Sorted.{IsStrictlySortedBy}
use Rattle.std.specs.Ordering.{nat_cmp}
use Rattle.ids.specs.Members.{is_live, resolve, says_live, status_in}
use Rattle.ids.specs.Names.{Grant}
use Rattle.ids.specs.declared.member.Status.{Status}
use Rattle.ids.specs.declared.member.Status.TheVariants.{Live, Dead, Left}
use Rattle.ids.specs.declared.outcome.Outcome.{Outcome}
use Rattle.ids.specs.declared.work.Task.{Task}
use Rattle.codec.specs.Table.{PacketOf, is_house, is_short}
use Rattle.codec.specs.declared.body.Beat.{Beat}
use Rattle.codec.specs.declared.body.Body.{Body}
use Rattle.codec.specs.declared.body.Body.TheVariants as body
use Rattle.codec.specs.declared.body.Leave.{Leave}
use Rattle.codec.specs.declared.body.Save.{Save}
use Rattle.codec.specs.declared.body.Steal.{Steal}
use Rattle.codec.specs.declared.body.TaskResult.{TaskResult}
use Rattle.serial_meaning.specs.Job.{JobOf}
use Rattle.steal_protocol.specs.Replies.{by_order, by_reply, name_of_reply, reply_in}
use Rattle.steal_protocol.specs.declared.replies.Reply.{Reply}
use Rattle.clearinghouse.specs.Calls.{passes}
use Rattle.clearinghouse.specs.Cases
use Rattle.clearinghouse.specs.Cases.{by_status, on_body, on_packet}
use Rattle.clearinghouse.specs.House.{HouseOf, Kept, is_root, kept_of, members_of, name_of, opened}
use Rattle.clearinghouse.specs.Laws.{IsDue, IsHouse, IsListing, IsSafe, KeepsHouse, join}
use Rattle.clearinghouse.specs.Moves
use Rattle.clearinghouse.specs.Steps.{HouseAnswer, Refused, Does, HouseStepOf, sends, sends_before}
use Rattle.clearinghouse.specs.declared.error.HouseError.{HouseError}
use Rattle.clearinghouse.specs.declared.error.HouseError.TheVariants as error
use Rattle.clearinghouse.specs.declared.parts.RootGrant.{RootGrant}
use Rattle.clearinghouse.proofs.Changing.{all_put}
use Rattle.clearinghouse.proofs.Listing.{declared_dead_listing, heard_listing, leaver_gone, leaver_heir, listed_listing, said_listing}

if_holds : {A : Type 0} (P : A → Type 0) (b : Bool) (x y : A) → (b ≡ true → P x) → (b ≡ false → P y) → P (cond b x y)
if_holds P true x y p q = p refl
if_holds P false x y p q = q refl

status_holds : {A : Type 0} (P : A → Type 0) (o : Option Status) (live gone unlisted : A)
    → (says_live o ≡ true → P live) → P gone → (o ≡ None → P unlisted) → P (by_status o live gone unlisted)
unfolding by_status
status_holds P None live gone unlisted p q r = r refl
status_holds P (Some Live) live gone unlisted p q r = p refl
status_holds P (Some Dead) live gone unlisted p q r = q
status_holds P (Some (Left heir)) live gone unlisted p q r = q

order_holds : {A : Type 0} (P : A → Type 0) (c : Ordering) (below same above : A) → P below → P same → P above
    → P (by_order c below same above)
unfolding by_order
order_holds P Less below same above p q r = p
order_holds P Equal below same above p q r = q
order_holds P Greater below same above p q r = r

reply_holds : {A : Type 0} (P : A → Type 0) (o : Option Reply) (seq : ℕ) (older : A) (again : PacketOf → A) (newer : A)
    → P older → ((p : PacketOf) → P (again p)) → P newer → P (by_reply o seq older again newer)
reply_holds P None seq older again newer p q r = r
reply_holds P (Some reply) seq older again newer p q r =
    order_holds P (nat_cmp seq reply.seq) older (again reply.packet) newer p (q reply.packet) r

abbrev Lists : (old new : HouseOf) → Type 0
Lists h new = IsListing h.version h.workers → IsListing new.version new.workers

abbrev AllShort : List Reply → Type 0
AllShort replies = AllByRecursion (λ r. IsTrue (is_short r.packet.body)) replies

-- a step that commits nothing, and leaves the outcome and the root's grant as they were, or no
-- grant
same : (h new : HouseOf) (sent : List PacketOf) → (AllShort h.replies → AllShort new.replies) → kept_of new ≡ kept_of h
    → new.outcome ≡ h.outcome → (h.root ≡ None → new.root ≡ None) → Lists h new → KeepsHouse h (sends sent new)
same h new sent short kept outcome root listing = record {
  holds = λ is. record {
    decided = λ o there. root (is.decided o (sym outcome ∙ there));
    listing = listing is.listing;
    short = short is.short;
  };
  commits = kept;
  outcome = λ is o there. outcome ∙ there;
}

module _ (job : JobOf) where
  -- the root's grant is settled after a change of the roster, in a house that keeps as much and has
  -- the same grant
  settled_by : (h new : HouseOf) (before : List PacketOf) (r : RootGrant) (holder : Option ℕ)
      → (AllShort h.replies → AllShort new.replies) → kept_of new ≡ kept_of h → new.outcome ≡ h.outcome
      → h.root ≡ Some r → Lists h new → KeepsHouse h (sends_before before (Moves.settles_to job r holder new))
  settled_by h new before r None short kept outcome root listing =
      same h (record new { root = None }) _ short kept outcome (λ none. refl) listing
  settled_by h new before r (Some holder) short kept outcome root listing =
      same h (record new { root = Some (record r { holder = holder }) }) _ short kept outcome
      (λ none. let wrong : Some r ≡ None = sym root ∙ none in cc) listing

  settled_at : (h new : HouseOf) (before : List PacketOf) (root : Option RootGrant)
      → (AllShort h.replies → AllShort new.replies) → kept_of new ≡ kept_of h → new.outcome ≡ h.outcome → h.root ≡ root
      → new.root ≡ root → Lists h new → KeepsHouse h (sends_before before (Moves.settles_root job root new))
  settled_at h new before None short kept outcome root new_root listing =
      same h new _ short kept outcome (λ none. new_root) listing
  settled_at h new before (Some r) short kept outcome root new_root listing =
      settled_by h new before r (resolve (members_of new) r.holder) short kept outcome root listing

  joined : (i : ℕ) (h : HouseOf) → IsSafe h (Cases.joined job i h)
  joined i h =
      status_holds (IsSafe h) (status_in i (members_of h)) _ _ _
      (λ live. same h _ _ (λ s. s) refl refl (λ none. none) (heard_listing i h.moment h.version h.workers))
      (same h _ _ (λ s. s) refl refl (λ none. none) (λ listing. listing))
      (λ new.
      if_holds (IsSafe h) (nat_lt (length h.workers) 4096) _ _
      (λ room. same h _ _ (λ s. s) refl refl (λ none. none)
      (listed_listing (record { incarnation = i; status = Live; heard = h.moment }) h.version h.workers refl new
      (ltb-true (length h.workers) 4096 room)))
      (λ full. ltb-false (length h.workers) 4096 full))

  served : (b : Steal) (h : HouseOf) (o : Option Task) → (is_some o ≡ true → h.outcome ≡ None)
      → IsSafe h (Cases.served job b o h)
  served b h None unknown = same h _ _
      (λ s. all_put name_of_reply (λ r. IsTrue (is_short r.packet.body)) _ h.replies refl s) refl refl (λ none. none)
      (λ listing. listing)
  served b h (Some task) unknown =
      if_holds (IsSafe h) (nat_lt (h.minted + 1) (2 ^ 64)) _ _
      (λ more. record {
        holds = λ is. record {
          decided = λ o there. let wrong : Some o ≡ None =
              sym there ∙ unknown refl in cc;
          listing = is.listing;
          short = all_put name_of_reply (λ r. IsTrue (is_short r.packet.body)) _ h.replies refl is.short;
        };
        commits = refl;
        outcome = λ is o there. there;
      })
      (λ spent. inl (ltb-false (h.minted + 1) (2 ^ 64) spent))

  free : (h : HouseOf) (root : Option RootGrant) (outcome : Option Outcome)
      → is_some (cond (is_some root || is_some outcome) None (Moves.root_task job)) ≡ true → outcome ≡ None
  free h root None is = refl
  free h None (Some o) is = cc
  free h (Some r) (Some o) is = cc

  stolen : (b : Steal) (h : HouseOf) → IsSafe h (Cases.stolen job b h)
  stolen b h =
      if_holds (IsSafe h) (is_live b.from (members_of h)) _ _
      (λ live.
      reply_holds (IsSafe h) (reply_in b.from h.replies) b.seq _ _ _ tt
      (λ p. same h _ _ (λ s. s) refl refl (λ none. none) (λ listing. listing))
      (served b h (Cases.free_task job h) (free h h.root h.outcome)))
      (λ gone. tt)

  out : (g : Grant) (root : Option RootGrant) → is_root g root ≡ true → root ≡ None → ⊥
  out g None is none = cc
  out g (Some r) is none = cc

  returned : (b : TaskResult) (h : HouseOf) → IsSafe h (Cases.returned job b h)
  returned b h = by_root (is_root b.grant h.root) refl
    where
      ack : List PacketOf
      ack = Moves.packet job b.from (body.ResultAck (record { grant = b.grant })) ∷ []

      by_root : (is : Bool) → is_root b.grant h.root ≡ is
          → IsSafe h (cond (not is) (Does (sends ack h))
          (cond (nat_lt (h.sequence + 1) (2 ^ 64)) (Does (Moves.records b.outcome ack h)) (Refused error.Spent)))
      by_root false is = same h h ack (λ s. s) refl refl (λ none. none) (λ listing. listing)
      by_root true is =
          if_holds (IsSafe h) (nat_lt (h.sequence + 1) (2 ^ 64)) _ _
          (λ more. record {
            holds = λ before. record {
              decided = λ o there. refl;
              listing = before.listing;
              short = before.short;
            };
            commits = (refl, refl, refl);
            outcome = λ before o there. absurd (out b.grant h.root is (before.decided o there));
          })
          (λ spent. inr (ltb-false (h.sequence + 1) (2 ^ 64) spent))

  left : (b : Leave) (h : HouseOf) → IsSafe h (Cases.left job b h)
  left b h =
      let new : HouseOf = Moves.says b.from (Moves.leaving_status b.from b.heir (members_of h)) h in
      status_holds (IsSafe h) (status_in b.from (members_of h)) _ _ _
      (λ live.
      settled_at h new (Moves.roster_for job b.from new ∷ []) h.root (λ s. s) refl refl refl refl
      (said_listing b.from (Moves.leaving_status b.from b.heir (members_of h))
      (leaver_gone b.from (members_of h) b.heir) h.version h.workers
      (leaver_heir b.from (members_of h) b.heir) live))
      (same h _ _ (λ s. s) refl refl (λ none. none) (λ listing. listing))
      (λ unlisted. tt)

  answered_beat : (b : Beat) (h new : HouseOf) → (AllShort h.replies → AllShort new.replies) → kept_of new ≡ kept_of h
      → new.outcome ≡ h.outcome → new.root ≡ h.root → Lists h new → IsSafe h (Cases.answered_beat job b new)
  answered_beat b h new short kept outcome root listing =
      if_holds (IsSafe h) (nat_lt b.version new.version) _ _
      (λ old. same h new _ short kept outcome (λ none. root ∙ none) listing)
      (λ told. same h new _ short kept outcome (λ none. root ∙ none) listing)

  beats : (to : ℕ) (b : Beat) (h : HouseOf) → IsSafe h (Cases.beats job to b h)
  beats to b h =
      if_holds (IsSafe h) (nat_eq to (name_of h)) _ _
      (λ own.
      status_holds (IsSafe h) (status_in b.from (members_of h)) _ _ _
      (λ live. answered_beat b h (Moves.hears b.from h) (λ s. s) refl refl refl
      (heard_listing b.from h.moment h.version h.workers))
      (answered_beat b h h (λ s. s) refl refl refl (λ listing. listing))
      (λ unlisted. tt))
      (λ other. if_holds (IsSafe h) (is_house to) _ _
      (λ house. same h _ _ (λ s. s) refl refl (λ none. none) (λ listing. listing)) (λ none. tt))

  saved : (b : Save) (h : HouseOf) → IsSafe h (Cases.saved b h)
  saved b h =
      if_holds (IsSafe h) (not (is_live b.from (members_of h))
      || (is_some h.outcome || not (Cases.may_save (record { place = b.place; value = b.value }) h))) _ _
      (λ no. tt)
      (λ may.
      if_holds (IsSafe h) (nat_lt (h.sequence + 1) (2 ^ 64)) _ _
      (λ more. record {
        holds = λ is. record { decided = is.decided; listing = is.listing; short = is.short };
        commits = (refl, refl, refl);
        outcome = λ is o there. there;
      })
      (λ spent. inr (ltb-false (h.sequence + 1) (2 ^ 64) spent)))

  own : (to : ℕ) (h : HouseOf) (a : HouseAnswer) → IsSafe h a → IsSafe h (Cases.if_own job to h a)
  own to h a is = if_holds (IsSafe h) (nat_eq to (name_of h)) _ _ (λ same. is) (λ other. tt)

  body_safe : (to : ℕ) (b : Body) (h : HouseOf) → IsSafe h (on_body job to b h)
  unfolding on_body
  body_safe to (body.Join b) h = if_holds (IsSafe h) (nat_eq to (2 ^ 63)) _ _ (λ any. joined b.from h) (λ other. tt)
  body_safe to (body.Steal b) h = own to h _ (stolen b h)
  body_safe to (body.Result b) h = own to h _ (returned b h)
  body_safe to (body.Leave b) h = own to h _ (left b h)
  body_safe to (body.Beat b) h = beats to b h
  body_safe to (body.Save b) h = own to h _ (saved b h)
  body_safe to (body.Roster b) h = tt
  body_safe to (body.Grant b) h = tt
  body_safe to (body.Refuse b) h = tt
  body_safe to (body.ResultAck b) h = tt
  body_safe to (body.Offer b) h = tt
  body_safe to (body.OfferAck b) h = tt
  body_safe to (body.Abort b) h = tt
  body_safe to (body.Piece b) h = tt

  packet_safe : (p : PacketOf) (h : HouseOf) → IsSafe h (on_packet job p h)
  unfolding on_packet
  packet_safe p h = if_holds (IsSafe h) (nat_eq p.job job.number) _ _ (λ ours. body_safe p.to p.body h) (λ other. tt)

  pub packet_keeps : (p : PacketOf) (h : HouseOf) (s : HouseStepOf) → on_packet job p h ≡ Does s → KeepsHouse h s
  packet_keeps p h s is = rw is at (packet_safe p h)

  pub refused_due : (p : PacketOf) (h : HouseOf) (e : HouseError) → on_packet job p h ≡ Refused e → IsDue h e
  refused_due p h e is = rw is at (packet_safe p h)

  pub moment_keeps : (now : ℕ) (h : HouseOf) → KeepsHouse h (passes job now h)
  unfolding passes
  moment_keeps now h =
      if_holds (KeepsHouse h) (nat_lt h.moment now) _ _
      (λ later.
      if_holds (KeepsHouse h) (list_any (Moves.is_lost h.limit now) h.workers) _ _
      (λ some.
      settled_at h (Moves.with_workers (map (Moves.declared_dead h.limit now) h.workers) (record h { moment = now })) []
      h.root (λ s. s) refl refl refl refl (declared_dead_listing h.limit now h.version h.workers some))
      (λ none. same h _ _ (λ s. s) refl refl (λ none. none) (λ listing. listing)))
      (λ late. same h h _ (λ s. s) refl refl (λ none. none) (λ listing. listing))

  pub roster_room : (i : ℕ) (h : HouseOf) → status_in i (members_of h) ≡ None → length h.workers < 4096
      → on_packet job (join job i) h ≡ Does (Moves.tells job i (Moves.lists i h))
  unfolding on_packet on_body by_status
  roster_room i h none room =
      rw (eq-eqb job.number job.number refl)
      (ap (λ o. by_status o (Does (Moves.tells job i (Moves.hears i h))) (Does (Moves.tells job i h))
      (Cases.new_joined job i h)) none
      ∙ rw (lt-ltb (length h.workers) 4096 room) refl)

  pub roster_full : (i : ℕ) (h : HouseOf) → status_in i (members_of h) ≡ None → 4096 ≤ length h.workers
      → on_packet job (join job i) h ≡ Refused error.RosterFull
  unfolding on_packet on_body by_status
  roster_full i h none full =
      rw (eq-eqb job.number job.number refl)
      (ap (λ o. by_status o (Does (Moves.tells job i (Moves.hears i h))) (Does (Moves.tells job i h))
      (Cases.new_joined job i h)) none
      ∙ rw (le-ltb (length h.workers) 4096 full) refl)

  pub moment_late : (now : ℕ) (h : HouseOf) → now ≤ h.moment → passes job now h ≡ sends [] h
  unfolding passes
  moment_late now h late = rw (le-ltb h.moment now late) refl

pub opened_house : (limit : ℕ) (k : Kept) → IsHouse (opened limit k)
unfolding IsStrictlySortedBy
opened_house limit k = record {
  decided = λ o there. refl;
  listing = record { few = omega arith; rising = tt; heirs = tt; counted = omega arith };
  short = tt;
}

pub few_versions : (h : HouseOf) → IsHouse h → h.version < 2 ^ 64
few_versions h is = omega (arith, is.listing.counted, is.listing.few)
