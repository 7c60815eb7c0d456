-- The root's grant by a changed roster.
use Rattle.std.proofs.Common.{◌≡◌, ℕ, inl, Option, None, Some, refl, sym}
use Rattle.ids.specs.Names.{Grant}
use Rattle.ids.specs.Members.{resolve}
use Rattle.codec.specs.Table.{PacketOf}
use Rattle.codec.specs.declared.body.Body.TheVariants as body
use Rattle.serial_meaning.specs.Job.{JobOf}
use Rattle.clearinghouse.specs.House.{HouseOf, members_of}
use Rattle.clearinghouse.specs.Moves as moves
use Rattle.clearinghouse.specs.declared.parts.RootGrant.{RootGrant}
use Rattle.table_laws.specs.View.{View}
use Rattle.table_laws.specs.Moves.{close_root}
use Rattle.table_laws.specs.Acts as acts
use Rattle.table_laws.specs.Runs.{by_right, leads_on}
use Rattle.move_laws.specs.Beside.{KeepsSent}
use Rattle.move_laws.proofs.Others.{all_same}
use Rattle.move_laws.proofs.Sent.{keeps_one}
use Rattle.actor_laws.proofs.node_moves.Told.{one_shown, packet_kept}
use Rattle.actor_laws.specs.house_moves.Shows.{OpenShown, ShowsRoot}
use Rattle.actor_laws.specs.house_moves.Steps.{HouseStepShown}
use Rattle.actor_laws.proofs.house_moves.Then.{quietly}

module _ (job : JobOf) (v : View) (h : HouseOf) (s : OpenShown v h) where
  -- another has the work of its holder
  moved_to : (r : RootGrant) (holder : ℕ) → h.root ≡ Some r
      → HouseStepShown job v h (moves.settles_to job r (Some holder) h)
  moved_to r holder out =
      let root : ShowsRoot v.root (Some (record r { holder = holder })) =
      by_table v.root (let k = s.root in rw out at k) in
      quietly job v h (record h { root = Some (record r { holder = holder }) }) refl
      (record {
        mode = s.mode;
        roster = s.roster;
        is = s.is;
        shows = s.shows;
        room = s.room;
        minted = s.minted;
        replies = s.replies;
        said = s.said;
        root = root;
        stored = s.stored;
        epoch = s.epoch;
        only = s.only;
      })
    where
      by_table : (o : Option Grant) → ShowsRoot o (Some r) → ShowsRoot o (Some (record r { holder = holder }))
      by_table None k = k
      by_table (Some g) k = k

  -- nobody has it: it isn't out any more
  closed : (r : RootGrant) → h.root ≡ Some r → HouseStepShown job v h (moves.settles_to job r None h)
  closed r out = by_table v.root refl (let k = s.root in rw out at k)
    where
      by_grant : (g : Grant) → v.root ≡ Some g → g ≡ r.grant → HouseStepShown job v h (moves.settles_to job r None h)
      by_grant g is same =
          let act : acts.Act v (close_root v g) = acts.closes_root g is in
          let view : View = close_root v g in
          let keeps : KeepsSent v view = keeps_one act in
          let abort : PacketOf = moves.packet job r.holder (body.Abort (record { grant = r.grant })) in
          record {
            view = view;
            run = λ k. by_right k act tt;
            since = λ base k. leads_on k act;
            keeps = keeps;
            others = λ j apart. assumption (all_same v j);
            used = refl;
            same_name = refl;
            after = record {
              mode = s.mode;
              roster = s.roster;
              is = s.is;
              shows = s.shows;
              room = s.room;
              minted = s.minted;
              replies = s.replies;
              said = λ t y e. packet_kept keeps y.packet (s.said t y e);
              root = tt;
              stored = s.stored;
              epoch = s.epoch;
              only = s.only;
            };
            sent = one_shown view abort (inl (sym same));
            transfers = λ t m. inl m;
            fills = refl;
            keeps_transfers = λ k e. cc;
          }

      by_table : (o : Option Grant) → v.root ≡ o → ShowsRoot o (Some r)
          → HouseStepShown job v h (moves.settles_to job r None h)
      by_table None is k = absurd k
      by_table (Some g) is k = by_grant g is k

  pub settles_shown : HouseStepShown job v h (moves.settles job h)
  settles_shown = by_root h.root refl
    where
      by_holder : (r : RootGrant) → h.root ≡ Some r → (o : Option ℕ)
          → HouseStepShown job v h (moves.settles_to job r o h)
      by_holder r out None = closed r out
      by_holder r out (Some holder) = moved_to r holder out

      by_root : (o : Option RootGrant) → h.root ≡ o → HouseStepShown job v h (moves.settles_root job o h)
      by_root None out = quietly job v h h refl s
      by_root (Some r) out = by_holder r out (resolve (members_of h) r.holder)

-- it commits nothing
pub settles_quiet : (job : JobOf) (h : HouseOf) → (moves.settles job h).commits ≡ None
settles_quiet job h = by_root h.root
  where
    by_holder : (r : RootGrant) (o : Option ℕ) → (moves.settles_to job r o h).commits ≡ None
    by_holder r None = refl
    by_holder r (Some holder) = refl

    by_root : (o : Option RootGrant) → (moves.settles_root job o h).commits ≡ None
    by_root None = refl
    by_root (Some r) = by_holder r (resolve (members_of h) r.holder)
