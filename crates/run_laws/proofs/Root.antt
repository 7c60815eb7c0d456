-- The root's grant, in the tables and at the clearinghouse.
use Rattle.std.proofs.Common.{◌≡◌, Option, None, Some, ap}
use Rattle.ids.specs.Names.{Grant}
use Rattle.clearinghouse.specs.House.{HouseOf}
use Rattle.clearinghouse.specs.declared.parts.RootGrant.{RootGrant}
use Rattle.table_laws.specs.View.{View}
use Rattle.actor_laws.specs.house_moves.Shows.{ShowsRoot, OpenShown}

root_is : (o : Option Grant) (r : RootGrant) → ShowsRoot o (Some r) → o ≡ Some r.grant
root_is None r shows = absurd shows
root_is (Some k) r shows = ap (λ (x : Grant). Some x) shows

-- the one that is out is that of the tables
pub root_there : (v : View) (h : HouseOf) → OpenShown v h → (r : RootGrant) → h.root ≡ Some r → v.root ≡ Some r.grant
root_there v h s r out = let root = s.root in root_is v.root r (rw out at root)
