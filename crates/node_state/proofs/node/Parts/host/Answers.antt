use Rattle.std.proofs.Common.{◌≡◌, Some, rules}
use Rattle.ids.specs.Ordered.{AreInOrder}
use Rattle.subcomputation.specs.Subs.{has_record, host_in, name_of_sub}
use Rattle.subcomputation.proofs.Others.{found_by}
use Rattle.node_state.specs.Parts.{AreParts}
use Rattle.node_state.proofs.node.Parts.host.Goals as goal

pub returns-clause-held : goal.returns-clause-held
returns-clause-held c =
    let order : AreInOrder name_of_sub c.args.self.now.node.subs = search rules in
    let found : host_in c.args.grant c.args.self.now.node.subs ≡ Some c.in_ok-found.found.now = search rules in
    found_by name_of_sub (has_record c.args.grant) c.in_ok-found.found.now c.args.self.now.node.subs order found

pub returns-clause-minted : goal.returns-clause-minted
returns-clause-minted c =
    let order : AreInOrder name_of_sub c.args.self.now.node.subs = search rules in
    let found : host_in c.args.grant c.args.self.now.node.subs ≡ Some c.in_ok-found.found.now = search rules in
    let held = found_by name_of_sub (has_record c.args.grant) c.in_ok-found.found.now c.args.self.now.node.subs order
    found in
    let are : AreParts c.args.self.now = rw (← c.self.view_is) c.self.invariant in
    λ h fresh. are.minted h fresh c.in_ok-found.found.now.grant c.in_ok-found.found.now held
