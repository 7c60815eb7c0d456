-- Where each wanted grant has a live holder, one of these has work.
use Rattle.std.proofs.Common.{◌≡◌, ℕ, ℤ, ◌⊎◌, inl, inr, Option, Some, sym, ap, ◌∙◌}
use Rattle.ids.specs.Names.{Grant}
use Rattle.ids.specs.declared.outcome.Progress.{Progress}
use Rattle.ids.specs.declared.outcome.Progress.TheVariants.{Active, Finished}
use Rattle.serial_meaning.specs.Job.{JobOf}
use Rattle.victim_records.specs.Records.{record_in}
use Rattle.subcomputation.specs.Subs.{SubOf}
use Rattle.clearinghouse.specs.House.{HouseOf}
use Rattle.clearinghouse.specs.declared.parts.RootGrant.{RootGrant}
use Rattle.table_laws.specs.View.{Sub, View}
use Rattle.table_laws.specs.Facts.{Live}
use Rattle.table_laws.specs.Acts.{ReachedInTables}
use Rattle.table_laws.specs.Work as tables
use Rattle.table_laws.proofs.Lists.{some_same}
use Rattle.table_laws.proofs.SomeWork.{work_somewhere}
use Rattle.content_laws.specs.Shown.{outcome_of}
use Rattle.content_laws.proofs.Apart.{own_grant}
use Rattle.content_laws.proofs.Records.{granted_there}
use Rattle.actor_laws.specs.node_moves.Shows.{IsShown}
use Rattle.actor_laws.specs.house_moves.Shows.{OpenShown}
use Rattle.world_steps.specs.Lost.{HasWork, IsLive, IsOver, SomeWork, Wanted, of_root, of_record}
use Rattle.world_steps.specs.World.{Holder, WorldOf}
use Rattle.run_laws.specs.Shown.{Shown}
use Rattle.run_laws.proofs.Holding.{live_there}
use Rattle.run_laws.proofs.Ready.{ready_there}
use Rattle.run_laws.proofs.Root.{root_there}
use Rattle.run_laws.proofs.Up.{HeldLive, held_live}

-- who has an outcome is finished
is_over : (p : Progress) (o : Option ℤ) → outcome_of p ≡ Some o → IsOver p
is_over Active o e = cc
is_over (Finished x) o e = tt

-- a sub that has work shows one that has
has_work : (t : Sub) (x : SubOf) → IsShown t x
    → ((o : Option ℤ) × (t.content.outcome ≡ Some o)) ⊎ tables.ReadyInTables t.content → HasWork x
has_work t x is (inl over) = inl (is_over x.content.progress over.0 (sym is.content.outcome ∙ over.1))
has_work t x is (inr ready) = inr (ready.frame, ready_there t.content x.content is.kept is.content ready)

module _ (job : JobOf) (v : View) (w : WorldOf) (shown : Shown job v w) (reached : ReachedInTables v) (h : HouseOf)
    (s : OpenShown v h) (root : RootGrant) (out : h.root ≡ Some root) where
  -- a grant of a record that tables have is wanted if its host is
  record_wanted : (host g : Grant) (i n : ℕ) (t : Sub) → Wanted w h host → Live v i host t
      → t.content.granted n ≡ Some g → Wanted w h g
  record_wanted host g i n t wanted there is =
      let held : HeldLive w host t = held_live job v w shown i host t there in
      let found = granted_there t.content held.holder.sub.content n g held.shown.kept held.shown.content is in
      let own : g ≡ found.0.grant = own_grant g found.0 held.holder.sub.content.records found.1 in
      let at : record_in found.0.grant held.holder.sub.content.records ≡ Some found.0 =
      ap (λ (k : Grant). record_in k held.holder.sub.content.records) (sym own) ∙ found.1 in
      rw own (of_record wanted held.holder at)

  -- what is wanted in the tables is so in the world
  wanted_there : (g : Grant) → tables.Wanted v g → Wanted w h g
  wanted_there g (tables.as_root k is) =
      let same : root.grant ≡ k = some_same (sym (root_there v h s root out) ∙ is) in
      let first : Wanted w h root.grant = of_root out in
      rw same at first
  wanted_there g (tables.as_record host k i t n wanted there is) =
      record_wanted host k i n t (wanted_there host wanted) there is

  -- who holds a grant live does so in the tables
  holds_there : (g : Grant) → IsLive w g → tables.HasHolder v g
  holds_there g found =
      let at : Holder w found.0 g = found.1 in
      let held = live_there v at.node g at.sub (shown.nodes found.0 at.node at.up) at.live in
      record { name = at.node.incarnation; sub = held.sub; live = held.live }

  pub some_work : ((g : Grant) → Wanted w h g → IsLive w g) → SomeWork w h
  some_work all =
      let found : tables.Working v = work_somewhere v root.grant reached (root_there v h s root out)
      (λ g wanted. holds_there g (all g (wanted_there g wanted))) in
      let held : HeldLive w found.grant found.holder.sub =
      held_live job v w shown found.holder.name found.grant found.holder.sub found.holder.live in
      record {
        grant = found.grant;
        wanted = wanted_there found.grant found.wanted;
        at = held.at;
        holder = held.holder;
        work = has_work found.holder.sub held.holder.sub held.shown found.work;
      }
