use Rattle.std.proofs.Common.{◌≡◌, true}
use Rattle.std.specs.List.{list_all}
use Rattle.subcomputation.specs.Fitting.{is_foreign}
use Rattle.node_packets.proofs.Arriving.{all_foreign, foreign_records, none_minted}
use Rattle.node_packets.proofs.offers.law_is_foreign.Goals as goal

pub returns : goal.returns
returns c =
    let all : list_all (is_foreign c.args.node.now.node.incarnation c.args.node.now.node.subs)
    c.args.sub.now.content.records ≡ true =
    foreign_records c.args.node.now.node.incarnation c.args.node.now.node.subs c.args.sub.now.content
    c.content.ensures.sound c.requires in
    record {
      records = all_foreign c.args.node.now.node.incarnation c.args.node.now.node.subs c.args.sub.now.content.records
          all;
      minted = λ h fresh. none_minted c.args.node.now.node.incarnation c.args.node.now.node.subs h
          c.args.sub.now.content.records all fresh.0;
    }
