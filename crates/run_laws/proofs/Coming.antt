-- Where the tables say that work can come from, it can come from in the world.
use Rattle.std.proofs.Common.{◌≡◌, ℕ, ◌⊎◌, ⊎_elim, Some}
use Rattle.ids.specs.Names.{Grant}
use Rattle.ids.specs.declared.work.Record.{Record}
use Rattle.serial_meaning.specs.Job.{JobOf}
use Rattle.victim_records.specs.Records.{record_in}
use Rattle.clearinghouse.specs.House.{HouseOf}
use Rattle.clearinghouse.specs.declared.parts.RootGrant.{RootGrant}
use Rattle.table_laws.specs.View.{View}
use Rattle.table_laws.specs.Facts.{Came, RecordOf}
use Rattle.table_laws.specs.Acts.{ReachedInTables}
use Rattle.table_laws.specs.Recovery.{Comes, from_holder, from_thief, from_leaver, from_redo}
use Rattle.table_laws.proofs.NamesReached.{names_reached}
use Rattle.table_laws.proofs.NothingLost.{record_comes, root_comes}
use Rattle.table_laws.proofs.RequestsReached.{requests_reached}
use Rattle.table_laws.proofs.RostersReached.{rosters_reached}
use Rattle.content_laws.proofs.Records.{record_shown}
use Rattle.actor_laws.specs.house_moves.Shows.{OpenShown}
use Rattle.world_steps.specs.Lost.{Wanted, of_root, of_record, Carried, itself, its_host, Found, live, awaited, frozen, cut_off}
use Rattle.world_steps.specs.World.{Holder, WorldOf}
use Rattle.run_laws.specs.Shown.{Shown}
use Rattle.run_laws.proofs.Holding.{LiveThere, live_there}
use Rattle.run_laws.proofs.Cut.{is_cut}
use Rattle.run_laws.proofs.Root.{root_there}
use Rattle.run_laws.proofs.SentWork.{awaits, was_sent}
use Rattle.run_laws.proofs.Up.{held_frozen, held_live}

module _ (job : JobOf) (v : View) (w : WorldOf) (shown : Shown job v w) (reached : ReachedInTables v) (h : HouseOf)
    (s : OpenShown v h) where
  -- from each place where the tables say that it can
  comes_there : (host g : Grant) → ((i : ℕ) → (Came v.transfers g i) ⊎ (Came v.transfers host i) → Carried w g i)
      → Comes v s.roster host g → Found w h g
  comes_there host g carried (from_holder i t there) = let held =
      held_live job v w shown i g t there in live (held.at, held.holder)
  comes_there host g carried (from_thief t sent of first works pending) =
      awaited (rw of at (awaits job v w shown (names_reached reached)
      (requests_reached reached) t sent first works pending))
  comes_there host g carried (from_leaver i heir t leaving holds unacked) =
      frozen (held_frozen job v w shown i heir g t leaving holds)
  comes_there host g carried (from_redo i cut came) =
      cut_off (i, carried i came, is_cut job v w shown (rosters_reached reached) h s.roster s.shows i cut)

  -- the work of the root's grant
  root_found : (r : RootGrant) → h.root ≡ Some r → Found w h r.grant
  root_found r out = comes_there r.grant r.grant
      (λ i came. ⊎_elim (λ c. itself (was_sent job v w shown r.grant i c))
      (λ c. itself (was_sent job v w shown r.grant i c)) came)
      (root_comes v s.roster r.grant reached s.is (root_there v h s r out))

  -- that of a record of a live subcomputation
  record_found : (host : Grant) (a : ℕ) (r : Record) → (at : Holder w a host)
      → record_in r.grant at.sub.content.records ≡ Some r → Found w h r.grant
  record_found host a r at there =
      let held : LiveThere v at.node.incarnation host at.sub =
      live_there v at.node host at.sub (shown.nodes a at.node at.up) at.live in
      let record_is : RecordOf held.sub.content r.grant =
      record_shown held.sub.content at.sub.content r.grant r held.shown.content there in
      comes_there host r.grant
      (λ i came. ⊎_elim (λ c. itself (was_sent job v w shown r.grant i c))
      (λ c. its_host at there (was_sent job v w shown host i c)) came)
      (record_comes v s.roster at.node.incarnation host r.grant held.sub record_is.number reached s.is held.live
      record_is.is)

  pub found_there : (g : Grant) → Wanted w h g → Found w h g
  found_there g (of_root {r = r} out) = root_found r out
  found_there g (of_record {host = host} {a = a} {r = r} wanted at there) = record_found host a r at there
